use Rattle.std.proofs.Common.{◌<◌, ◌≤◌, ◌-◌, length}
use Rattle.vaults.specs.Blocks.{IsBehindBefore, IsNotBehindAt}
use Rattle.vaults.proofs.versions.holder_of.Given as goal

-- the start before low is behind the place, and the one at high isn't
abbrev pub invariant-loop-low : goal.invariant-loop-low
invariant-loop-low l = record {
  in_turn : l.low ≤ l.high;
  within : l.high < length l.starts;
  before : IsBehindBefore l.place l.low l.starts;
  there : IsNotBehindAt l.place l.high l.starts;
}

abbrev pub decreases-loop-low : goal.decreases-loop-low
decreases-loop-low l = l.high - l.low
