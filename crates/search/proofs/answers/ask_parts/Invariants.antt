use Rattle.std.proofs.Common.{take}
use Rattle.search.specs.Answers.{AsksEach, part_asks}
use Rattle.search.proofs.answers.ask_parts.Given as goal

abbrev pub invariant-loop-place : goal.invariant-loop-place
invariant-loop-place l = AsksEach l.fn.found (take l.place (part_asks 0 l.parts)) l.found
