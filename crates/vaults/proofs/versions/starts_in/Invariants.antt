use Rattle.std.proofs.Common.{◌≡◌, ◌≤◌, length, take, drop, vec_capacity}
use Rattle.vaults.specs.Blocks.{rows_in, starts_of}
use Rattle.vaults.proofs.versions.starts_in.Given as goal

-- the starts so far are there, what is left stands in the other blocks, and there is room for all
abbrev pub invariant-loop-block : goal.invariant-loop-block
invariant-loop-block l = record {
  started : l.starts.items ≡ take l.block-index (starts_of l.blocks);
  left : l.left ≡ length (rows_in (drop l.block-index l.blocks));
  room : length l.blocks ≤ vec_capacity l.starts;
}
