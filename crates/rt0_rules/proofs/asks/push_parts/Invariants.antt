use Rattle.std.proofs.Common.{◌≡◌, ◌++◌, take}
use Rattle.rt0_rules.specs.Asked.{part_asks}
use Rattle.rt0_rules.proofs.asks.push_parts.Given as goal

abbrev pub invariant-loop-place : goal.invariant-loop-place
invariant-loop-place l = l.asks.items ≡ l.fn.asks.items ++ part_asks l.parts 0 (take l.place l.part-items)
