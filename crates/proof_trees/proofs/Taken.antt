-- What stands in the front of a list.
use Rattle.std.proofs.Common.{◌≡◌, ℕ, zero, suc, ◌<◌, List, [], ◌∷◌, Some, take, sym, subst, ◌∙◌, ◌+◌, inl, inr, arith}
use Rattle.std.proofs.lemmas.Bool.{cases_lt}
use Rattle.std.specs.Prelude.{slice_get}

-- an element of the front stands at its place in the list
pub from_front : {A : Type 0} (xs : List A) (n place : ℕ) (x : A) → slice_get (take n xs) place ≡ Some x → (place < n) × (slice_get xs place ≡ Some x)
from_front xs zero place x at = absurd (cc)
from_front [] (suc n) place x at = absurd (cc)
from_front (y ∷ xs) (suc n) zero x at = (omega arith, at)
from_front (y ∷ xs) (suc n) (suc place) x at =
    let rest = from_front xs n place x at in (omega (arith, rest.0), rest.1)

-- what holds of each element below a place, and of the one there, holds of each up to it
pub up_to : {A : Type 0} (P : ℕ → A → Type 0) (xs : List A) (i : ℕ) (x : A) → slice_get xs i ≡ Some x →
    ((k : ℕ) (y : A) → k < i → slice_get xs k ≡ Some y → P k y) → P i x → (k : ℕ) (y : A) → k < i + 1 → slice_get xs k ≡ Some y → P k y
up_to P xs i x at below here k y within there =
    elim (cases_lt k i) [
      | inl before ↦ below k y before there
      | inr behind ↦
          let same : i ≡ k = omega arith in
          let is : Some y ≡ Some x = sym there ∙ subst (λ (n : ℕ). slice_get xs n ≡ Some x) same at in
          let values : x ≡ y = cc in
          subst (λ (z : _). P k z) values (subst (λ (n : ℕ). P n x) same here)
    ]
