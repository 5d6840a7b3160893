use Rattle.std.proofs.Common.{◌≡◌, ◌≤◌, length, take}
use Rattle.names.specs.Texts.{trim_end}
use Rattle.names.proofs.texts.trim_end.Given as goal

abbrev pub invariant-loop-end : goal.invariant-loop-end
invariant-loop-end l = (l.end ≤ length l.text) × (trim_end l.text ≡ trim_end (take l.end l.text))

abbrev pub decreases-loop-end : goal.decreases-loop-end
decreases-loop-end l = l.end
