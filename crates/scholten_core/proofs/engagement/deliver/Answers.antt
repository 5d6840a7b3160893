use Rattle.scholten_core.proofs.Delivered.{delivers_paid}
use Rattle.scholten_core.proofs.engagement.deliver.Goals as goal

pub returns-in-Node : goal.returns-in-Node
returns-in-Node c =
    rw c.in-Node.is (delivers_paid c.args.nodes.now.items c.pay.new.nodes.items c.in-Node.node c.pay.result (rw c.in-Node.is at c.requires) c.pay.ensures c.args.environment.now)
