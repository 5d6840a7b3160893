use Rattle.std.proofs.Common.{◌≡◌, ◌≤◌, ◌++◌, take, vec_capacity}
use Rattle.proof_trees.specs.Text.{lines_from}
use Rattle.proof_trees.proofs.writing.append_lines.Given as goal

abbrev pub invariant-loop-place : goal.invariant-loop-place
invariant-loop-place l = record {
  written : l.out.items ≡ l.fn.out.items ++ lines_from l.steps 1 (take l.place l.steps);
  capacity : vec_capacity l.fn.out ≤ vec_capacity l.out;
}
