use Rattle.std.proofs.Common.{take}
use Rattle.proof_trees.specs.Proof.{ClaimsEach}
use Rattle.proof_trees.proofs.checking.claims_each.Given as goal

abbrev pub invariant-loop-i : goal.invariant-loop-i
invariant-loop-i l = ClaimsEach l.before (take l.i l.places) l.who (take l.i l.parts)
