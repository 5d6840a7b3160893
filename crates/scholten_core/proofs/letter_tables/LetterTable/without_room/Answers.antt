use Rattle.std.proofs.Common.{refl, arith}
use Rattle.scholten_core.proofs.letter_tables.LetterTable.without_room.Goals as goal

pub invariant_of-result : goal.invariant_of-result
invariant_of-result g c =
    rw c.new.ensures.items (record { numbers = omega arith; waiting = refl; gone = refl; before = refl; all = refl; within_first = omega arith; within_last = omega arith })
