-- The steps of a diffusing computation, and what the calls that make them do
use Rattle.std.specs.Prelude.{ℕ, ◌+◌, ◌==◌, Bool, false, not, List, [], ◌∷◌, ◌++◌, Some, length, filter, map, remove}
use Rattle.std.specs.Prelude.{slice_get, if◌then◌else◌, ◌≡◌, ◌&&◌, true}
use Rattle.std.specs.FinMap as fin
use Rattle.scholten_core.specs.declared.parents.Parent.{Parent}
use Rattle.scholten_core.specs.declared.parents.Parent.TheVariants.{Environment, Node}
use Rattle.scholten_core.specs.declared.letters.Letter.{Letter}
use Rattle.scholten_core.specs.Computation.{Computation, deficit, letter_of, parent_of, IsHeld, outstanding, waiting}
use Rattle.scholten_core.specs.Sound.{IsSound}

module _ {P : Type 0} where
  -- letters from one sender, numbered from number on, each waiting
  abbrev pub numbered : Parent → ℕ → List (ℕ × P) → List (ℕ × Letter P)
  numbered from number [] = []
  numbered from number (o ∷ outs) =
      (number, record { from = from; to = o.0; held = false; load = o.1 }) ∷ numbered from (number + 1) outs

  -- from sends letters
  abbrev pub sends : Computation P → Parent → List (ℕ × P) → Computation P
  sends d from outs =
      record d { sent = d.sent + length outs; letters = d.letters ++ numbered from (d.sent + 1) outs }

  -- the environment sends the first letter
  abbrev pub started : ℕ → P → Computation P
  started root load =
      sends (record { sent = 0; letters = []; signals = []; engaged = fin.empty }) Environment ((root, load) ∷ [])

  -- the letter of a number is now held, or waits again
  abbrev pub mark : ℕ → Bool → ℕ × Letter P → ℕ × Letter P
  mark number held l = if l.0 == number then (l.0, record l.1 { held = held }) else l

  abbrev pub marked : Computation P → ℕ → Bool → Computation P
  marked d number held = record d { letters = map (mark number held) d.letters }

  -- an engaged node that is owed nothing becomes neutral, and a signal to the one that engaged it
  -- goes under way; nobody and the environment have nobody to signal
  abbrev pub settles : Computation P → Parent → Computation P
  settles d (Node n) =
      if fin.contains_key d.engaged n && (deficit d (Node n) == 0)
      then record d { signals = d.signals ++ parent_of d n ∷ []; engaged = fin.remove d.engaged n }
      else d
  settles d _ = d

  -- a letter is received: it engages a neutral node, and otherwise a signal to its sender goes
  -- under way
  abbrev pub receives : Computation P → ℕ → Letter P → Computation P
  receives d number l =
      let rest = filter (λ x. not (x.0 == number)) d.letters in
      if fin.contains_key d.engaged l.to
      then record d { letters = rest; signals = d.signals ++ l.from ∷ [] }
      else record d { letters = rest; engaged = fin.insert d.engaged l.to l.from }

  -- a letter is finished: it is received, its receiver sends letters, and becomes neutral if it is
  -- then owed nothing
  abbrev pub finishes : Computation P → ℕ → Letter P → List (ℕ × P) → Computation P
  finishes d number l outs = settles (sends (receives d number l) (Node l.to) outs) (Node l.to)

-- the letter that waited at a place has that number, and is held from then on
pub record TakesLetter {P : Type 0} (old : Computation P) (place number : ℕ) (new : Computation P) : Type 0 where
  pub letter : Letter P
  pub waited : slice_get (waiting old.letters) place ≡ Some (number, letter)
  pub marked : new ≡ marked old number true
  pub taken : letter_of new number ≡ Some (record letter { held = true })
  pub held : IsHeld new.letters number
  pub sound : IsSound new

-- the letter of a number is finished: its receiver gets it and sends these letters
pub record FinishesLetter {P : Type 0} (old : Computation P) (number : ℕ) (outs : List (ℕ × P)) (new : Computation P) : Type 0 where
  pub letter : Letter P
  pub found : letter_of old number ≡ Some letter
  pub finished : new ≡ finishes old number letter outs
  pub letters : new.letters ≡ filter (λ l. not (l.0 == number)) old.letters ++ numbered (Node letter.to) (old.sent + 1) outs
  pub sent : new.sent ≡ old.sent + length outs
  pub more : outstanding new ≡ outstanding old + length outs

-- the signal at a place is delivered
pub record DeliversSignal {P : Type 0} (old : Computation P) (place : ℕ) (new : Computation P) : Type 0 where
  pub to : Parent
  pub found : slice_get old.signals place ≡ Some to
  pub signalled : new ≡ settles (record old { signals = remove old.signals place }) to
  pub letters : new.letters ≡ old.letters
  pub sent : new.sent ≡ old.sent
  pub less : outstanding new + 1 ≡ outstanding old
  pub sound : IsSound new
