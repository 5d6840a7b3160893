use Rattle.cred_graph.proofs.ListenerLemmas.{has_few, has_near, has_far}
use Rattle.cred_graph.proofs.NodeListLemmas.{listeners_in}
use Rattle.cred_graph.proofs.tables.Tables.has.Goals as goal

pub returns-then-list-le-NEAR : goal.returns-then-list-le-NEAR
returns-then-list-le-NEAR c =
    has_few c.args.self.now.0 c.args.n c.args.listening.now c.listeners-list.result.now c.listeners-list.ensures c.contains.result c.contains.ensures.value

pub returns-then-contains : goal.returns-then-contains
returns-then-contains c =
    has_near c.args.self.now.0 c.args.n c.args.listening.now c.listeners-list.result.now c.listeners-list.ensures c.contains-2.result c.contains-2.ensures.value c.if-contains.true

pub returns-else-contains : goal.returns-else-contains
returns-else-contains c =
    rw (← c.self.view_is)
    (has_far (listeners_in c.self.inside.lists.items) c.args.n c.args.listening.now c.listeners-list.result.now
    (rw (← c.self.view_is) at c.listeners-list.ensures) c.contains-2.result c.contains-2.ensures.value c.self.inside.far.keys
    c.contains-else-contains.result c.self.invariant.0 c.if-contains.false c.contains-else-contains.ensures)
