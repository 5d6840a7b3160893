use Rattle.std.specs.Prelude.{◌≤◌, map, take}
use Rattle.hall.specs.Hall.{StepsEach}
use Rattle.hall.specs.Batches.{letter_of, named}
use Rattle.hall.specs.Work.{HandsIn}
use Rattle.hall.proofs.working.hand_in_each.Given as goal

abbrev pub invariant-loop-held_letter : goal.invariant-loop-held_letter
invariant-loop-held_letter l = record {
  handed_in : HandsIn (StepsEach l.initial.search l.search) l.back (named l.of) (map letter_of (take l.held_letter-index l.held_letters)) l.finished;
  most : l.finished ≤ l.held_letter-index;
}
