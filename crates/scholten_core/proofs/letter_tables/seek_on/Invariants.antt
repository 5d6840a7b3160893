use Rattle.std.proofs.Common.{◌≡◌, ◌+◌, ◌<◌, take}
use Rattle.scholten_core.specs.LetterTable.{count, does_wait}
use Rattle.scholten_core.proofs.letter_tables.seek_on.Given as goal

-- of those that wait before the one sought, these are left
abbrev pub invariant-loop-at : goal.invariant-loop-at
invariant-loop-at g l = (count does_wait (take l.at l.letters.items) + l.left ≡ l.place) × (l.place < count does_wait l.letters.items)
