-- The port stays what it is where a node is added.
use Rattle.std.proofs.lemmas.Result.{on_ok_weaker}
use Rattle.search.proofs.Numbered.{asks_node, port_given}
use Rattle.search.proofs.answers.ask.Goals as goal

pub send-requires : goal.send-requires
send-requires c =
    let given = c.in_ok-node.ensures.given in
    port_given c.args.found.now.graph c.node_for.new.found.graph c.args.expr.now c.in_ok-node.node given.0 c.args.port given.1 c.requires

pub returns : goal.returns
returns c =
    on_ok_weaker c.send.result (asks_node c.args.found.now c.node_for.new.found c.send.new.self c.args.expr.now c.in_ok-node.node c.args.port c.in_ok-node.ensures.given c.requires) c.send.ensures.sent
