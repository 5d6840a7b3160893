use Rattle.credential_text.specs.Refusal.{part_texts}
use Rattle.credential_text.proofs.Left.{PartsSeen, texts_left, bytes_left}
use Rattle.credential_text.proofs.bodies.are_parts.Given as goal

abbrev pub invariant-loop-left : goal.invariant-loop-left
invariant-loop-left l = PartsSeen (part_texts l.body) (texts_left l.left) l.count

abbrev pub decreases-loop-left : goal.decreases-loop-left
decreases-loop-left l = bytes_left l.left
