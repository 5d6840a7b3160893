use Rattle.std.proofs.Common.{arith}
use Rattle.cred_graph.proofs.StoredLemmas.{length-listeners, listener_read, port_read}
use Rattle.cred_graph.proofs.graphs.Graph.listener.Goals as goal

pub listener-kept-requires : goal.listener-kept-requires
listener-kept-requires c =
    let node = rw (← c.self.view_is) at c.requires.node in
    let place = rw (← c.self.view_is) at c.requires.place in
    omega (arith, length-listeners c.self.inside.nodes c.self.inside.strangers c.self.inside.tables.0 c.self.inside.tables.1 c.args.n node)

pub port_name-port-requires : goal.port_name-port-requires
port_name-port-requires c = port_read c.self.inside.nodes c.self.inside.strangers c.self.inside.tables.0 c.self.inside.tables.1 c.args.n c.args.i c.listener-kept.result c.self.invariant c.listener-kept.ensures

pub returns : goal.returns
returns c =
    let node = rw (← c.self.view_is) at c.requires.node in
    rw (← c.self.view_is, c.port_name-port.ensures) (listener_read c.self.inside.nodes c.self.inside.strangers c.self.inside.tables.0 c.self.inside.tables.1 c.args.n c.args.i c.listener-kept.result node c.listener-kept.ensures)
