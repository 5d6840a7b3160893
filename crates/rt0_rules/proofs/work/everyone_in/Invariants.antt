use Rattle.std.proofs.Common.{[], take}
use Rattle.rt0_rules.specs.Asked.{Adds}
use Rattle.rt0_rules.proofs.work.everyone_in.Given as goal

abbrev pub invariant-loop-entity : goal.invariant-loop-entity
invariant-loop-entity l = Adds (take l.entity-index l.entity-items) [] l.everyone.items
