use Rattle.std.proofs.lemmas.Result.{IfOk-from_err}
use Rattle.cred_graph.proofs.NodeListLemmas.{on_err}
use Rattle.cred_graph.specs.Stored.{graph_as}
use Rattle.cred_graph.proofs.StoredLemmas.{Listened, joined, joined_same, listener_kept, listens_by, no_listener}
use Rattle.cred_graph.proofs.graphs.Graph.add_listener.Goals as goal

pub invariant_of-self : goal.invariant_of-self
invariant_of-self c = joined c.self.inside.nodes c.self.inside.strangers _ c.self.inside.tables.0 c.self.inside.tables.0 c.self.inside.tables.1 c.self.invariant c.keep_port.ensures.joins

pub returns-in_err-port : goal.returns-in_err-port
returns-in_err-port c =
    let asked = rw (← c.self.view_is) at c.requires.asked in
    record {
      ok = IfOk-from_err c.from_residual.result _ c.from_residual.ensures.0;
      listens = IfOk-from_err c.from_residual.result _ c.from_residual.ensures.0;
      graph = (joined c.self.inside.nodes c.self.inside.strangers c.keep_port.new.strangers c.self.inside.tables.0 c.self.inside.tables.0 c.self.inside.tables.1 c.self.invariant c.keep_port.ensures.joins).graph;
      growth =
          rw (← c.self.view_is)
          (on_err c.from_residual.result
          (no_listener c.self.inside.nodes c.self.inside.strangers c.self.inside.tables.0 c.self.inside.tables.1 c.self.invariant c.args.n (record { asker = c.args.m; port = c.args.port }) asked c.in_err-port.ensures.refused));
      unchanged =
          rw (← c.self.view_is)
          (on_err c.from_residual.result
          (joined_same c.self.inside.nodes c.self.inside.strangers c.keep_port.new.strangers c.self.inside.tables.0 c.self.inside.tables.0 c.self.inside.tables.1 c.self.invariant c.keep_port.ensures.joins));
    }

pub invariant_of-self-2 : goal.invariant_of-self-2
invariant_of-self-2 c =
    let asked = rw (← c.self.view_is) at c.requires.asked in
    let asker = rw (← c.self.view_is) at c.requires.asker in
    listener_kept c.self.inside.nodes c.self.inside.strangers c.keep_port.new.strangers c.self.inside.tables.0 c.add_listener.new.self.0 c.self.inside.tables.1 c.self.invariant c.keep_port.ensures.joins c.args.n (record { asker = c.args.m; port = c.in_ok-port.port }) asked asker c.in_ok-port.ensures.kept.0 c.add_listener.new.self.1 c.add_listener.ensures.solutions c.add_listener.result c.add_listener.ensures.ok c.add_listener.ensures.unchanged

pub returns : goal.returns
returns c =
    let asked = rw (← c.self.view_is) at c.requires.asked in
    let asker = rw (← c.self.view_is) at c.requires.asker in
    let given : Listened c.args.self.now (graph_as c.self.inside.nodes c.keep_port.new.strangers c.add_listener.new.self.0 c.add_listener.new.self.1) c.args.n (record { asker = c.args.m; port = c.args.port }) c.add_listener.result =
    rw (← c.self.view_is)
    (listens_by c.self.inside.nodes c.self.inside.strangers c.keep_port.new.strangers c.self.inside.tables.0
    c.add_listener.new.self.0 c.self.inside.tables.1 c.self.invariant c.keep_port.ensures.joins c.args.n
    (record { asker = c.args.m; port = c.in_ok-port.port }) asked asker c.in_ok-port.ensures.kept.0
    c.add_listener.new.self.1 c.add_listener.ensures.solutions (record { asker = c.args.m; port = c.args.port })
    (λ i. record { asker = c.args.m; port = c.in_ok-port.ensures.kept.1 i })
    c.add_listener.result c.add_listener.ensures.ok c.add_listener.ensures.growth c.add_listener.ensures.unchanged) in
    record { ok = given.ok; listens = given.listens; graph = given.graph; growth = given.growth; unchanged = given.unchanged }
