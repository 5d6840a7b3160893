use Rattle.std.proofs.Common.{◌≡◌}
use Rattle.proof_trees.proofs.tests_below.of_monitors.hears_parts.Given as goal

abbrev pub invariant-loop-part : goal.invariant-loop-part
invariant-loop-part l = l.monitor.parts ≡ l.parts
