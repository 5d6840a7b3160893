use Rattle.std.specs.Prelude.{◌≡◌, ◌≤◌, ℕ, List, map, vec_len, vec_capacity}
use Rattle.hall.specs.Hall.{StepsEach}
use Rattle.hall.specs.Batches.{letter_of}
use Rattle.hall.specs.Work.{GoesOn}
use Rattle.hall.proofs.working.take_each.Given as goal

abbrev pub invariant-loop-step : goal.invariant-loop-step
invariant-loop-step l = record {
  goes_on : (name : List ℕ × ℕ) → GoesOn (StepsEach l.initial.search l.search) name l._step ⊥ (map letter_of l.held_letters.items);
  bound : vec_len l.held_letters ≤ l._step;
  capacity : vec_capacity l.held_letters ≡ vec_capacity l.initial.held_letters;
}
