use Rattle.std.proofs.Common.{All}
use Rattle.hall.specs.Work.{SearchIsQuiet}
use Rattle.hall.proofs.halls.Hall.pick_of.Given as goal

-- the searches so far are quiet
abbrev pub invariant-loop-number : goal.invariant-loop-number
invariant-loop-number l = All (λ k. SearchIsQuiet l.self l.who k.now) l.yielded
