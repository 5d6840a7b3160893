use Rattle.proof_trees.proofs.tests_below.of_cred_graph.listens_by_number.Goals as goal

pub add_numbered_listener-requires : goal.add_numbered_listener-requires
add_numbered_listener-requires c = record {
  asked = c.in-Some.ensures;
  asker = c.in-Some-number_in.ensures;
  port = c.in-Some-entity_number.ensures;
}
