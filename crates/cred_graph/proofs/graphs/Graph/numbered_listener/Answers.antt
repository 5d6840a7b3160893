use Rattle.std.proofs.Common.{arith}
use Rattle.cred_graph.proofs.StoredLemmas.{length-listeners, listener_read, port_read}
use Rattle.cred_graph.proofs.graphs.Graph.numbered_listener.Goals as goal

pub listener-kept-requires : goal.listener-kept-requires
listener-kept-requires c =
    let node = rw (← c.self.view_is) at c.requires.node in
    let place = rw (← c.self.view_is) at c.requires.place in
    omega (arith, length-listeners c.self.inside.nodes c.self.inside.strangers c.self.inside.tables.0 c.self.inside.tables.1 c.args.n node)

pub port_number-port-requires-clause-kept : goal.port_number-port-requires-clause-kept
port_number-port-requires-clause-kept c = port_read c.self.inside.nodes c.self.inside.strangers c.self.inside.tables.0 c.self.inside.tables.1 c.args.n c.args.i c.listener-kept.result c.self.invariant c.listener-kept.ensures

pub port_number-port-requires-clause-named : goal.port_number-port-requires-clause-named
port_number-port-requires-clause-named c =
    let node = rw (← c.self.view_is) at c.requires.node in
    let named = rw (← c.self.view_is) at c.requires.named in
    named _ (listener_read c.self.inside.nodes c.self.inside.strangers c.self.inside.tables.0 c.self.inside.tables.1 c.args.n c.args.i c.listener-kept.result node c.listener-kept.ensures)

pub returns-clause-listener : goal.returns-clause-listener
returns-clause-listener c =
    let node = rw (← c.self.view_is) at c.requires.node in
    rw (← c.self.view_is, c.port_number-port.ensures.same) (listener_read c.self.inside.nodes c.self.inside.strangers c.self.inside.tables.0 c.self.inside.tables.1 c.args.n c.args.i c.listener-kept.result node c.listener-kept.ensures)

pub returns-clause-port : goal.returns-clause-port
returns-clause-port c = rw (← c.self.view_is) c.port_number-port.ensures.number
