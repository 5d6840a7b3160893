use Rattle.std.proofs.Common.{◌≡◌, ◌≤◌, ◌++◌, take, vec_capacity}
use Rattle.proof_trees.specs.Text.{numbers_text}
use Rattle.proof_trees.proofs.writing.append_numbers.Given as goal

abbrev pub invariant-loop-place : goal.invariant-loop-place
invariant-loop-place l = record {
  written : l.out.items ≡ l.fn.out.items ++ numbers_text (take l.place-index l.places);
  capacity : vec_capacity l.fn.out ≤ vec_capacity l.out;
}
