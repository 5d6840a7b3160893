-- The place of the first element that passes a test.
use Rattle.std.proofs.Common.{◌≡◌, ℕ, ◌<◌, ◌≤◌, Bool, true, false, List, length, arith, refl, inl, inr, Some, None}
use Rattle.std.specs.List.{position, position_or_len, list_any}
use Rattle.std.specs.Prelude.{not}
use Rattle.std.proofs.lemmas.Bool.{cases_lt, lt-ltb, le-ltb}
use Rattle.std.proofs.lemmas.List.Folds.{list_any_at, list_any_none}
use Rattle.std.proofs.lemmas.List.Sums.{prefix_len-le-length, fails_before_first, passes_at_first}

-- what `position` gives, by whether the place is inside
position-inside : (p : ℕ → Bool) (xs : List ℕ) → position_or_len p xs < length xs → position p xs ≡ Some (position_or_len p xs)
position-inside p xs inside = rw (lt-ltb (position_or_len p xs) (length xs) inside) refl

position-outside : (p : ℕ → Bool) (xs : List ℕ) → length xs ≤ position_or_len p xs → position p xs ≡ None
position-outside p xs outside = rw (le-ltb (position_or_len p xs) (length xs) outside) refl

-- no element passes
pub none_passes : (p : ℕ → Bool) (xs : List ℕ) → position p xs ≡ None → position_or_len p xs ≡ length xs
none_passes p xs none =
    elim (cases_lt (position_or_len p xs) (length xs)) [
      | inl inside ↦ let some = position-inside p xs inside in absurd (cc)
      | inr outside ↦ omega (arith, prefix_len-le-length (λ x. not (p x)) xs)
    ]

-- the element there passes
pub first_passes : (p : ℕ → Bool) (xs : List ℕ) (i : ℕ) → position p xs ≡ Some i → (position_or_len p xs ≡ i) × (i < length xs)
first_passes p xs i some =
    elim (cases_lt (position_or_len p xs) (length xs)) [
      | inl inside ↦ let at = position-inside p xs inside in let e : position_or_len p xs ≡ i = cc in (e, omega arith)
      | inr outside ↦ let none = position-outside p xs outside in absurd (cc)
    ]

-- whether an element passes
pub list_any-inside : (p : ℕ → Bool) (xs : List ℕ) → position_or_len p xs < length xs → list_any p xs ≡ true
list_any-inside p xs inside = list_any_at p xs (position_or_len p xs) 0 inside (passes_at_first p xs 0 inside)

pub list_any-outside : (p : ℕ → Bool) (xs : List ℕ) → position_or_len p xs ≡ length xs → list_any p xs ≡ false
list_any-outside p xs outside = list_any_none p xs (λ k d inside. fails_before_first p xs k d (omega arith))
