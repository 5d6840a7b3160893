use Rattle.std.proofs.Common.{◌≡◌, ◌≤◌, drop, length}
use Rattle.credential_text.specs.Part.{parts_order}
use Rattle.credential_text.proofs.intersections.compare_parts.Given as goal

abbrev pub invariant-loop-i : goal.invariant-loop-i
invariant-loop-i l = (l.i ≤ length l.others) × (parts_order l.parts l.others ≡ parts_order (drop l.i l.parts) (drop l.i l.others))
