use Rattle.std.proofs.Common.{◌≡◌, ◌+◌, ◌<◌, ◌≤◌, length, take}
use Rattle.scholten_core.specs.LetterTable.{count, does_wait}
use Rattle.scholten_core.proofs.letter_tables.seek_back.Given as goal

-- of those that wait after the one sought, these are left
abbrev pub invariant-loop-at : goal.invariant-loop-at
invariant-loop-at g l = record {
  follow : count does_wait (take l.at l.letters.items) + l.follow ≡ count does_wait (take l.last l.letters.items) + l.left;
  there : l.left < count does_wait (take l.at l.letters.items);
  within : l.at ≤ length l.letters.items;
}
