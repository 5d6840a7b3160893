use Rattle.cred_graph.specs.Stored.{graph_as}
use Rattle.cred_graph.proofs.NumberLemmas.{entity_is}
use Rattle.cred_graph.proofs.SolutionLemmas.{new_solver_has_node, reason_has_numbers}
use Rattle.cred_graph.proofs.graphs.Graph.add_solution.Goals as goal
use Rattle.cred_graph.proofs.graphs.Graph.add_solution.Goals.{After-add_numbered_solution}

pub unreachable-requires : goal.unreachable-requires
unreachable-requires c =
    let fits = rw (← c.self.view_is) at c.requires in
    c.in_default.ensures (new_solver_has_node (graph_as c.self.inside.nodes c.self.inside.strangers c.self.inside.tables.0 c.self.inside.tables.1) c.self.invariant.graph c.args.n c.args.who c.args.reason fits)

pub reason_number-reason-requires : goal.reason_number-reason-requires
reason_number-reason-requires c =
    let fits = rw (← c.self.view_is) at c.requires in
    record {
      short = c.self.invariant.short;
      numbers = reason_has_numbers (graph_as c.self.inside.nodes c.self.inside.strangers c.self.inside.tables.0 c.self.inside.tables.1) c.self.invariant.graph c.args.n c.args.who c.args.reason fits;
    }

pub add_numbered_solution-requires-clause-entity : goal.add_numbered_solution-requires-clause-entity
add_numbered_solution-requires-clause-entity c = rw (← c.self.view_is) (c.args.who, c.in-Some.ensures)

pub add_numbered_solution-requires-clause-fits : goal.add_numbered_solution-requires-clause-fits
add_numbered_solution-requires-clause-fits c =
    let fits = rw (← c.self.view_is) at c.requires in
    rw (← c.self.view_is, entity_is c.self.inside.nodes c.in-Some.number c.args.who c.in-Some.ensures, c.reason_number-reason.ensures.same) fits
