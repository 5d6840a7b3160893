use Rattle.std.proofs.Common.{◌≡◌, length, take}
use Rattle.proof_trees.specs.Proof.{ClaimsEach}
use Rattle.proof_trees.proofs.rules.part_numbers.Given as goal

abbrev pub invariant-loop-i : goal.invariant-loop-i
invariant-loop-i l = record {
  eight : length l.numbers ≡ 8;
  claims : ClaimsEach l.draft.steps (take l.i l.numbers) l.who (take l.i l.parts);
}
