use Rattle.std.proofs.Common.{arith}
use Rattle.cred_graph.specs.Numbers.{entity_at, reason_at}
use Rattle.cred_graph.specs.Stored.{graph_as}
use Rattle.cred_graph.proofs.StoredLemmas.{Found, kept_by, found_by}
use Rattle.cred_graph.proofs.SolutionLemmas.{fits_node}
use Rattle.cred_graph.proofs.graphs.Graph.add_numbered_solution.Goals as goal

pub invariant_of-self : goal.invariant_of-self
invariant_of-self c =
    let entity = rw (← c.self.view_is) at c.requires.entity in
    let reason = rw (← c.self.view_is) at c.requires.reason in
    let fits = rw (← c.self.view_is) at c.requires.fits in
    kept_by c.self.inside.nodes c.self.inside.strangers c.self.inside.tables.0 c.add_solution.new.self.0 c.self.inside.tables.1 c.add_solution.new.self.1 c.self.invariant c.add_solution.ensures.listeners (c.args.n, c.args.who) c.args.reason entity reason
    fits c.add_solution.result c.add_solution.ensures.ok c.add_solution.ensures.unchanged

pub returns : goal.returns
returns c =
    let entity = rw (← c.self.view_is) at c.requires.entity in
    let reason = rw (← c.self.view_is) at c.requires.reason in
    let fits = rw (← c.self.view_is) at c.requires.fits in
    let given : Found c.args.self.now (graph_as c.self.inside.nodes c.self.inside.strangers c.add_solution.new.self.0 c.add_solution.new.self.1) (record { node = c.args.n; who = entity_at c.args.self.now.nodes c.args.who; reason = reason_at c.args.self.now.nodes c.args.reason }) c.add_solution.result =
    rw (← c.self.view_is)
    (found_by c.self.inside.nodes c.self.inside.strangers c.self.inside.tables.0 c.add_solution.new.self.0 c.self.inside.tables.1
    c.add_solution.new.self.1 c.self.invariant c.add_solution.ensures.listeners (c.args.n, c.args.who) c.args.reason entity
    reason fits c.add_solution.result c.add_solution.ensures.ok c.add_solution.ensures.growth c.add_solution.ensures.unchanged) in
    record { ok = given.ok; solves = given.solves; graph = given.graph; growth = given.growth; unchanged = given.unchanged }

pub overflow_cast-n : goal.overflow_cast-n
overflow_cast-n c =
    let fits = rw (← c.self.view_is) at c.requires.fits in
    let node = fits_node (graph_as c.self.inside.nodes c.self.inside.strangers c.self.inside.tables.0 c.self.inside.tables.1) c.args.n _ _ fits in
    record { fits = omega (arith, node, c.self.invariant.short) }
