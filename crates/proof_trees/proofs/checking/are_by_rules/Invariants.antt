use Rattle.std.proofs.Common.{ℕ, ◌<◌, ◌≡◌, Some, take}
use Rattle.std.specs.Prelude.{slice_get}
use Rattle.proof_trees.specs.declared.steps.Step.{Step}
use Rattle.proof_trees.specs.Proof.{IsBy}
use Rattle.proof_trees.proofs.checking.are_by_rules.Given as goal

abbrev pub invariant-loop-i : goal.invariant-loop-i
invariant-loop-i l = (k : ℕ) (s : Step) → k < l.i → slice_get l.steps k ≡ Some s → IsBy l.credentials (take k l.steps) s.who s.claim s.rule
