use Rattle.std.proofs.Common.{◌<◌, ◌≤◌, ◌-◌, length}
use Rattle.snapshots.specs.Span.{is_cut}
use Rattle.snapshots.specs.Blocks.{EndsBefore, BeginsAt}
use Rattle.snapshots.proofs.spans.spot_of.Given as goal

-- the block before low begins behind the cut, and the one at high doesn't
abbrev pub invariant-loop-low : goal.invariant-loop-low
invariant-loop-low l = record {
  in_turn : l.low ≤ l.high;
  within : l.high < length l.rows;
  before : EndsBefore (is_cut l.cut l.role) l.low l.rows;
  there : BeginsAt (is_cut l.cut l.role) l.high l.rows;
}

abbrev pub decreases-loop-low : goal.decreases-loop-low
decreases-loop-low l = l.high - l.low
