use Rattle.cred_graph.proofs.Found.{solution_at_place}
use Rattle.proof_trees.proofs.tests_below.of_cred_graph.solves_role.Goals as goal

pub add_solution-requires : goal.add_solution-requires
add_solution-requires c = (_, _, c.in-Some.ensures.node, c.in-Some-number_of.ensures.node, solution_at_place _ _ _ _ _ c.in-Some-reason.ensures.found)
