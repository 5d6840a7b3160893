use Rattle.proof_trees.proofs.tests_below.of_cred_graph.listens.Goals as goal

pub add_listener-requires : goal.add_listener-requires
add_listener-requires c = record { asked = c.in-Some.ensures; asker = c.in-Some-number_in.ensures }
