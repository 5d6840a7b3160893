use Rattle.cred_graph.proofs.Found.{solution_at_place}
use Rattle.proof_trees.proofs.tests_below.of_cred_graph.solve_link.Goals as goal

pub add_solution-requires : goal.add_solution-requires
add_solution-requires c = (
  c.args.base,
  c.args.name,
  c.in-Some.ensures.node,
  (c.in-Some-number_of.m, c.in-Some-number_of.ensures.node, solution_at_place _ _ _ _ _ c.in-Some-reason.ensures.found),
  (c.in-Some-number_of-2.k, c.in-Some-number_of-2.ensures.node, solution_at_place _ _ _ _ _ c.in-Some-reason-2.ensures.found),
)
