use Rattle.std.proofs.Common.{◌≡◌, ◌-◌, ◌≤◌, length, take, vec_capacity, vec_len}
use Rattle.std.specs.Option.{is_none}
use Rattle.scholten_core.specs.Sound.{IsNumbered}
use Rattle.scholten_core.specs.LetterTable.{count, does_wait, standing}
use Rattle.scholten_core.proofs.letter_tables.LetterTable.pop_holes.Given as goal

-- the letters stay, and the counts beside them
abbrev pub invariant-loop-self : goal.invariant-loop-self
invariant-loop-self g l = record {
  letters : standing l.self-inside.letters.items ≡ l.fn.self.letters;
  sent : l.self-inside.sent ≡ l.fn.self.sent;
  room : l.fn.self.room ≤ vec_capacity l.self-inside.letters - vec_len l.self-inside.letters;
  numbers : IsNumbered 0 l.self-inside.letters.items l.self-inside.sent;
  waiting : l.self-inside.waits ≡ count does_wait l.self-inside.letters.items;
  gone : l.self-inside.holes ≡ count is_none l.self-inside.letters.items;
  before : count does_wait (take l.self-inside.first l.self-inside.letters.items) ≡ 0;
  all : count does_wait (take l.self-inside.last l.self-inside.letters.items) ≡ l.self-inside.waits;
}

abbrev pub decreases-loop-self : goal.decreases-loop-self
decreases-loop-self g l = length l.self-inside.letters.items
