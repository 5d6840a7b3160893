-- What was made so far are steps of a drive, and fewer are left after each.
use Rattle.search.specs.Finish.{IsDriven}
use Rattle.search.proofs.Searching.{steps_left}
use Rattle.search.proofs.searches.Search.drive.Given as goal

abbrev pub invariant-loop-self : goal.invariant-loop-self
invariant-loop-self l = IsDriven l.initial.self l.self

abbrev pub decreases-loop-self : goal.decreases-loop-self
decreases-loop-self l = steps_left l.self.work l.self.stage
