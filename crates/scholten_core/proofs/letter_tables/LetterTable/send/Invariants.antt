use Rattle.std.proofs.Common.{◌≡◌, ◌+◌, ◌≤◌, ◌++◌, ◌^◌, ◌<◌}
use Rattle.std.specs.VecDeque.{deque_len}
use Rattle.scholten_core.specs.Step.{numbered}
use Rattle.scholten_core.proofs.letter_tables.LetterTable.send.Given as goal

-- the letters sent so far stand at the end, and there is room for the rest
abbrev pub invariant-loop-to : goal.invariant-loop-to
invariant-loop-to g l = record {
  letters : l.self.letters ++ numbered l.from (l.self.sent + 1) l.outs.items ≡ l.fn.self.letters ++ numbered l.from (l.fn.self.sent + 1) l.fn.outs.items;
  sent : l.self.sent + deque_len l.outs ≡ l.fn.self.sent + deque_len l.fn.outs;
  room : deque_len l.outs ≤ l.self.room;
  numbers : l.self.sent + deque_len l.outs < 2 ^ 64;
}

abbrev pub decreases-loop-to : goal.decreases-loop-to
decreases-loop-to g l = deque_len l.outs
