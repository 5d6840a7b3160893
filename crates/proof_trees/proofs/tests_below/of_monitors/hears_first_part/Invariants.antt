use Rattle.std.proofs.Common.{◌≡◌}
use Rattle.proof_trees.proofs.tests_below.of_monitors.hears_first_part.Given as goal

abbrev pub invariant-loop-known : goal.invariant-loop-known
invariant-loop-known l = l.monitor.parts ≡ 2
