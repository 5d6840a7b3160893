-- A table of numbers without repeats, and where each stands.
use Rattle.std.proofs.Common.{ℕ, zero, suc, ◌<◌, ◌≤◌, ◌==◌, ◌≡◌, ◌∙◌, inl, inr, ap, sym, subst, refl, arith, List, [], ◌∷◌, ◌++◌, Some, Contains, length, slice_get, position}
use Rattle.std.proofs.lemmas.Bool.{cases_lt}
use Rattle.std.proofs.lemmas.Bool.Decides.{Decides-eqb}
use Rattle.std.proofs.lemmas.List.Quantifiers.{position-Some}
use Rattle.std.proofs.lemmas.Option.{slice_get-get_or, same_Some}
use Rattle.indexmap.specs.IndexSet.{insert_key}
use Rattle.rt0_rules.specs.Work.{AreDistinct}
use Rattle.rt0_rules.proofs.Counting.{distinct-le}
use Rattle.rt0_rules.proofs.Elements.{Contains-none, Contains-first, Contains-later, Contains-cons_cases}
use Rattle.rt0_rules.proofs.Distinct.{AreDistinct-append}
use Rattle.cred_graph.proofs.NodeListLemmas.{Contains-at_place}
use Rattle.cred_graph.proofs.Lookups.{insert_key-absent}

-- the place that a look-up finds
pub at_position : (ks : List ℕ) (k i : ℕ) → Some i ≡ position (λ x. k == x) ks → slice_get ks i ≡ Some k
at_position ks k i found =
    let there = position-Some (λ x. k == x) ks i 0 (sym found) in
    slice_get-get_or ks i 0 there.0 ∙ ap Some (sym ((Decides-eqb k _).0 there.1))

pub pushed_key : (ks after : List ℕ) (k : ℕ) → (Contains ks k → ⊥) → after ≡ insert_key (λ x y. x == y) ks k → after ≡ ks ++ k ∷ []
pushed_key ks after k absent is = is ∙ insert_key-absent (λ x y. x == y) Decides-eqb ks k absent

-- an element stands in one place
pub one_place_each : {X : Type 0} (xs : List X) (x : X) → AreDistinct xs → (i j : ℕ) → slice_get xs i ≡ Some x → slice_get xs j ≡ Some x → i ≡ j
one_place_each [] x distinct i j at there = cc
one_place_each (y ∷ xs) x distinct zero zero at there = cc
one_place_each (y ∷ xs) x distinct zero (suc j) at there =
    let same : x ≡ y = sym (same_Some y x at) in
    absurd (distinct.0 (Contains-at_place xs j y (there ∙ ap Some same)))
one_place_each (y ∷ xs) x distinct (suc i) zero at there =
    let same : x ≡ y = sym (same_Some y x there) in
    absurd (distinct.0 (Contains-at_place xs i y (at ∙ ap Some same)))
one_place_each (y ∷ xs) x distinct (suc i) (suc j) at there = ap suc (one_place_each xs x distinct.1 i j at there)

pub distinct_push : {X : Type 0} (xs : List X) (x : X) → AreDistinct xs → (Contains xs x → ⊥) → AreDistinct (xs ++ x ∷ [])
distinct_push xs x distinct absent =
    AreDistinct-append xs (x ∷ []) distinct (Contains-none x, tt)
    (λ y among new. elim (Contains-cons_cases x [] y new) [
      | inl same ↦ absent (subst (Contains xs) (sym same) among)
      | inr none ↦ Contains-none y none
    ])

-- a place of a list has an element
pub element_at : {X : Type 0} (xs : List X) (i : ℕ) → i < length xs → (x : X) × (slice_get xs i ≡ Some x)
element_at [] i within = absurd (omega arith)
element_at (x ∷ xs) zero within = (x, refl)
element_at (x ∷ xs) (suc i) within = element_at xs i (omega arith)

-- the numbers below a bound
below : ℕ → List ℕ
below zero = []
below (suc n) = n ∷ below n

length-below : (n : ℕ) → length (below n) ≡ n
unfolding below
length-below zero = refl
length-below (suc n) = ap suc (length-below n)

Contains-below : (n k : ℕ) → k < n → Contains (below n) k
unfolding below
Contains-below zero k within = absurd (omega arith)
Contains-below (suc n) k within = elim (cases_lt k n) [
  | inl less ↦ Contains-later n (below n) k (Contains-below n k less)
  | inr more ↦ let same : n ≡ k = omega arith in subst (Contains (n ∷ below n)) same (Contains-first n (below n))
]

-- numbers below a bound without repeats are no more than the bound
pub bounded-le : (xs : List ℕ) (n : ℕ) → AreDistinct xs → ((k : ℕ) → Contains xs k → k < n) → length xs ≤ n
bounded-le xs n distinct bounded =
    let fewer : length xs ≤ length (below n) = distinct-le xs (below n) distinct (λ k among. Contains-below n k (bounded k among)) in
    omega (arith, length-below n)
