use Rattle.std.proofs.Common.{All}
use Rattle.std.specs.List.{AllByRecursion}
use Rattle.hall.specs.Work.{SearchIsQuiet}
use Rattle.hall.proofs.halls.Hall.pick.Given as goal

-- the searches of the tenants so far are quiet
abbrev pub invariant-loop-who : goal.invariant-loop-who
invariant-loop-who l = All (λ e. AllByRecursion (SearchIsQuiet l.self e.0.now) e.1.now.keys) l.yielded
