use Rattle.std.proofs.Common.{◌<◌, ◌≤◌, ◌-◌, length}
use Rattle.vaults.specs.Blocks.{IsAboveBefore, IsNotAboveAt}
use Rattle.vaults.proofs.parted_rows.spot_of.Given as goal

-- the block before low begins above the credential, and the one at high doesn't
abbrev pub invariant-loop-low : goal.invariant-loop-low
invariant-loop-low l = record {
  in_turn : l.low ≤ l.high;
  within : l.high < length l.blocks;
  before : IsAboveBefore l.credential l.low l.blocks;
  there : IsNotAboveAt l.credential l.high l.blocks;
}

abbrev pub decreases-loop-low : goal.decreases-loop-low
decreases-loop-low l = l.high - l.low
