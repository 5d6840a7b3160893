-- Lists whose elements have numbers: their places, counted from 0.
use Rattle.std.specs.Prelude.{ℕ, List, [], ◌∷◌, ◌++◌, ◌≡◌, ◌==◌, Some, if◌then◌else◌, slice_get, slice_index_or}

module _ {X : Type 0} where
  -- each element stands once
  abbrev pub IsOnce : List X → Type 0
  IsOnce xs = (i j : ℕ) (x : X) → slice_get xs i ≡ Some x → slice_get xs j ≡ Some x → i ≡ j

  -- the list of this number, empty where there is none
  abbrev pub list_at : List (List X) → ℕ → List X
  list_at lists n = slice_index_or lists n []

  -- each list is the same
  abbrev pub AreSame : List (List X) → List (List X) → Type 0
  AreSame old new = (m : ℕ) → list_at new m ≡ list_at old m

  -- the list of this number has the element at its end, and the others stay
  abbrev pub AddsAt : List (List X) → List (List X) → ℕ → X → Type 0
  AddsAt old new n x = (m : ℕ) → list_at new m ≡ (if m == n then list_at old m ++ x ∷ [] else list_at old m)
