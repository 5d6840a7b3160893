use Rattle.std.proofs.Common.{inl, refl}
use Rattle.cred_graph.specs.Numbers.{port_at}
use Rattle.cred_graph.specs.Stored.{graph_as}
use Rattle.cred_graph.proofs.StoredLemmas.{Listened, listener_kept, listens_by}
use Rattle.cred_graph.proofs.graphs.Graph.add_numbered_listener.Goals as goal

pub invariant_of-self : goal.invariant_of-self
invariant_of-self c =
    let asked = rw (← c.self.view_is) at c.requires.asked in
    let asker = rw (← c.self.view_is) at c.requires.asker in
    listener_kept c.self.inside.nodes c.self.inside.strangers c.self.inside.strangers c.self.inside.tables.0 c.add_listener.new.self.0 c.self.inside.tables.1 c.self.invariant (inl refl) c.args.n (record { asker = c.args.m; port = c.kept_port-port.result }) asked asker c.kept_port-port.ensures.kept c.add_listener.new.self.1 c.add_listener.ensures.solutions c.add_listener.result c.add_listener.ensures.ok c.add_listener.ensures.unchanged

pub returns : goal.returns
returns c =
    let asked = rw (← c.self.view_is) at c.requires.asked in
    let asker = rw (← c.self.view_is) at c.requires.asker in
    let given : Listened c.args.self.now (graph_as c.self.inside.nodes c.self.inside.strangers c.add_listener.new.self.0 c.add_listener.new.self.1) c.args.n (record { asker = c.args.m; port = port_at c.args.self.now.nodes c.args.port }) c.add_listener.result =
    rw (← c.self.view_is)
    (listens_by c.self.inside.nodes c.self.inside.strangers c.self.inside.strangers c.self.inside.tables.0
    c.add_listener.new.self.0 c.self.inside.tables.1 c.self.invariant (inl refl) c.args.n
    (record { asker = c.args.m; port = c.kept_port-port.result }) asked asker
    c.kept_port-port.ensures.kept c.add_listener.new.self.1 c.add_listener.ensures.solutions (record { asker = c.args.m; port = port_at c.self.inside.nodes c.args.port })
    (λ i. record { asker = c.args.m; port = c.kept_port-port.ensures.same i }) c.add_listener.result
    c.add_listener.ensures.ok c.add_listener.ensures.growth c.add_listener.ensures.unchanged) in
    record { ok = given.ok; listens = given.listens; graph = given.graph; growth = given.growth; unchanged = given.unchanged }

pub kept_port-port-requires : goal.kept_port-port-requires
kept_port-port-requires c = rw (← c.self.view_is) at c.requires.port
