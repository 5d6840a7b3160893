use Rattle.credential_text.specs.Refusal.{part_texts}
use Rattle.credential_text.proofs.Left.{PartsSoFar, texts_left, bytes_left}
use Rattle.credential_text.proofs.bodies.read_parts.Given as goal

abbrev pub invariant-loop-left : goal.invariant-loop-left
invariant-loop-left l = PartsSoFar l.owner (part_texts l.body) (texts_left l.left) l.parts l.count

abbrev pub decreases-loop-left : goal.decreases-loop-left
decreases-loop-left l = bytes_left l.left
