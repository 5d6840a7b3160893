-- The steps of a search's computation, when nothing of it can be carried on, and which letters it holds.
use Rattle.std.specs.Prelude.{ℕ, ◌+◌, ◌<◌, ◌≤◌, Bool, true, false, List, [], ◌≡◌, Option, Some, None, length, slice_get, if◌then◌else◌}
use Rattle.scholten_core.specs.declared.parents.Parent.{Parent}
use Rattle.scholten_core.specs.declared.letters.Letter.{Letter}
use Rattle.scholten_core.specs.Computation.{Computation, IsHeld, StandByNumber, letter_of, waiting}
use Rattle.scholten_core.specs.Sound.{IsNumbered}
use Rattle.scholten_core.specs.Step.{FinishesLetter, DeliversSignal, marked}
use Rattle.search.specs.Net.{Said}
use Rattle.search.specs.declared.letters.Held.{Held}
use Rattle.search.specs.declared.outcomes.Finished.{Finished}
use Rattle.search.specs.declared.outcomes.Finished.TheVariants as finished
use Rattle.search.specs.declared.stages.Stage.{Stage}
use Rattle.search.specs.declared.stages.Stage.TheVariants as stage

-- the letters that wait, in order of number; a search that is spent or broken has none
abbrev pub waiting_in : Stage → List (ℕ × Letter Said)
waiting_in (stage.Running c) = waiting c.letters
waiting_in _ = []

-- the signals under way, oldest first
abbrev pub signals_in : Stage → List Parent
signals_in (stage.Running c) = c.signals
signals_in _ = []

abbrev pub if_held : Option (Letter Said) → Option (Letter Said)
if_held None = None
if_held (Some l) = if l.held then Some l else None

-- the held letter of a number
abbrev pub held_in : Stage → ℕ → Option (Letter Said)
held_in (stage.Running c) number = if_held (letter_of c number)
held_in _ number = None

-- the letter in the hands of who finishes it
abbrev pub letter_in : Held Said → Letter Said
letter_in h = record { from = h.from; to = h.to; held = true; load = h.load }

-- this letter is held, in this computation
pub record HoldsLetter (old : Stage) (number : ℕ) (h : Held Said) : Type 0 where
  pub running : Computation Said
  pub runs : old ≡ stage.Running running
  pub letter : letter_of running number ≡ Some (letter_in h)
  pub held : IsHeld running.letters number
  pub by_number : StandByNumber running
  pub numbers : IsNumbered 0 running.letters running.sent

-- the same, with the letter of a number held or waiting
abbrev pub stage_marked : ℕ → Bool → Stage → Stage
stage_marked number held (stage.Running c) = stage.Running (marked c number held)
stage_marked number held st = st

-- the waiting letter at a place, which nobody held, is held from now on
pub record Holds (old new : Stage) (place number : ℕ) (letter : Letter Said) : Type 0 where
  pub waited : slice_get (waiting_in old) place ≡ Some (number, letter)
  pub marked : new ≡ stage_marked number true old
  pub free : held_in old number ≡ None
  pub held : held_in new number ≡ Some (record letter { held = true })

-- the held letter of a number is finished, and its receiver sends these, where the work limit allows it
abbrev pub Sends : Stage → Stage → ℕ → ℕ → List (ℕ × Said) → Finished → Type 0
Sends old new work number outs finished.Done =
    (c d : Computation Said) × (old ≡ stage.Running c) × (new ≡ stage.Running d)
    × (c.sent + length outs ≤ work) × FinishesLetter c number outs d
Sends old new work number outs finished.Spent =
    (c : Computation Said) × (old ≡ stage.Running c) × (work < c.sent + length outs) × (new ≡ stage.Spent)
Sends old new work number outs finished.Broken =
    (c : Computation Said) × (old ≡ stage.Running c) × (c.sent + length outs ≤ work) × (new ≡ stage.Broken)
Sends old new work number outs _ = ⊥

-- the signal at a place is delivered, where there is one
abbrev pub Delivers : Stage → Stage → ℕ → Bool → Type 0
Delivers old new place true =
    (c d : Computation Said) × (old ≡ stage.Running c) × (new ≡ stage.Running d)
    × (place < length c.signals) × DeliversSignal c place d
Delivers old new place false = (length (signals_in old) ≤ place) × (new ≡ old)

-- no letter waits and no signal is under way
abbrev pub IsQuiet : Stage → Type 0
IsQuiet st = (waiting_in st ≡ []) × (signals_in st ≡ [])

-- no letter is held
abbrev pub NoneHeld : Stage → Type 0
NoneHeld st = (number : ℕ) → held_in st number ≡ None

-- where a search still runs, it holds just the letters that it held
abbrev pub HoldsAsBefore : Stage → Stage → Type 0
HoldsAsBefore old new = (c : Computation Said) → new ≡ stage.Running c → (number : ℕ) → held_in new number ≡ held_in old number
