use Rattle.proof_trees.proofs.tests_below.of_snapshots.find_spans.Given as goal

abbrev pub ghosts-judges : goal.ghosts-judges
ghosts-judges a = record { name = a.blank.name; parts = a.blank.parts }
