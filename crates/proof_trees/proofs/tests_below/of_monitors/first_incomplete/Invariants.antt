use Rattle.std.proofs.Common.{◌≡◌}
use Rattle.proof_trees.proofs.tests_below.of_monitors.first_incomplete.Given as goal

abbrev pub invariant-loop-place : goal.invariant-loop-place
invariant-loop-place l = l.monitor.parts ≡ 2
