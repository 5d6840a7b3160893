-- How many elements pass, where those that pass come first.
use Rattle.std.proofs.Common.{ℕ, zero, suc, Bool, true, false, cond, List, [], ◌∷◌, ◌≡◌, ◌∙◌, ◌↔◌, ◌-◌, ◌<◌, ◌≤◌, sym, ap, refl, subst, length, filter, get_or, arith, inl, inr}
use Rattle.std.specs.List.{AllWithin}
use Rattle.std.specs.List.Sorted.{IsPartitionedBy, IsPartitionPoint, IsStrictlySortedBy}
use Rattle.std.specs.declared.cmp.Ordering.{Ordering}
use Rattle.std.specs.declared.cmp.Ordering.TheVariants.{Less}
use Rattle.std.proofs.lemmas.Bool.{cases_lt}
use Rattle.std.proofs.lemmas.Option.{slice_get-get_or, get_or_from_slice_get, slice_get_within}
use Rattle.std.proofs.lemmas.Map.Keys.{Less-from_sorted}
use Rattle.snapshots.specs.Span.{how_many}
use Rattle.snapshots.specs.Places.{PassesBelow, FailsAt}

pub none_pass : {X : Type 0} (p : X → Bool) (xs : List X) → ((k : ℕ) (d : X) → k < length xs → p (get_or xs k d) ≡ false) → how_many p xs ≡ 0
none_pass p [] fails = refl
none_pass {X} p (x ∷ xs) fails =
    ap (λ (b : Bool). length (cond b (x ∷ filter p xs) (filter p xs))) (fails 0 x (omega arith)) ∙ none_pass p xs (λ k d within. fails (suc k) d (omega arith))

-- so many pass as stand below the place where those that pass end
pub how_many_at : {X : Type 0} (p : X → Bool) (xs : List X) (i : ℕ) → i ≤ length xs → IsPartitionPoint (λ y. p y ≡ true) (λ y. p y ≡ false) xs i → how_many p xs ≡ i
how_many_at p [] zero within point = refl
how_many_at p [] (suc i) within point = absurd (omega arith)
how_many_at p (x ∷ xs) zero within point = none_pass p (x ∷ xs) (λ k d inside. point.1 k d (omega arith) inside)
how_many_at {X} p (x ∷ xs) (suc i) within point =
    ap (λ (b : Bool). length (cond b (x ∷ filter p xs) (filter p xs))) (point.0 0 x (omega arith) (omega arith))
    ∙ ap suc (how_many_at p xs i (omega arith) (λ k d low high. point.0 (suc k) d (omega arith) (omega arith), λ k d low high. point.1 (suc k) d (omega arith) (omega arith)))

within_cons : {X : Type 0} (P : X → Type 0) (x : X) (xs : List X) (h : ℕ) → P x → AllWithin P xs 0 h → AllWithin P (x ∷ xs) 0 (suc h)
within_cons P x xs h here rest zero d low high = here
within_cons P x xs h here rest (suc k) d low high = rest k d (omega arith) (omega arith)

within_tail : {X : Type 0} (P : X → Type 0) (x : X) (xs : List X) (h n : ℕ) → AllWithin P xs h n → AllWithin P (x ∷ xs) (suc h) (suc n)
within_tail P x xs h n rest zero d low high = absurd (omega arith)
within_tail P x xs h n rest (suc k) d low high = rest k d (omega arith) (omega arith)

-- behind one that fails all fail
pub fail_behind : {X : Type 0} (p : X → Bool) (xs : List X) (i : ℕ) → IsPartitionedBy p xs → ((d : X) → i < length xs → p (get_or xs i d) ≡ false) →
    (k : ℕ) (d : X) → i ≤ k → k < length xs → p (get_or xs k d) ≡ false
fail_behind p xs i parted fails k d low high = by (p (get_or xs k d)) refl
  where
    by : (b : Bool) → p (get_or xs k d) ≡ b → p (get_or xs k d) ≡ false
    by true passes = let one : p (get_or xs i d) ≡ true = parted i k d low high passes in let other : p (get_or xs i d) ≡ false = fails d (omega arith) in cc
    by false fails = fails

-- where the first fails, none passes
pub head_fails : {X : Type 0} (p : X → Bool) (x : X) (xs : List X) → IsPartitionedBy p (x ∷ xs) → p x ≡ false → how_many p (x ∷ xs) ≡ 0
head_fails p x xs parted fails = none_pass p (x ∷ xs) (λ k d high. fail_behind p (x ∷ xs) 0 parted (λ e low. fails) k d (omega arith) high)

pub tail_parted : {X : Type 0} (p : X → Bool) (x : X) (xs : List X) → IsPartitionedBy p (x ∷ xs) → IsPartitionedBy p xs
tail_parted p x xs parted i j d low high passes = parted (suc i) (suc j) d (omega arith) (omega arith) passes

-- those that pass end where so many have passed
pub point_at : {X : Type 0} (p : X → Bool) (xs : List X) → IsPartitionedBy p xs →
    (how_many p xs ≤ length xs) × IsPartitionPoint (λ y. p y ≡ true) (λ y. p y ≡ false) xs (how_many p xs)
point_at p [] parted = (omega arith, (λ k d low high. absurd (omega arith), λ k d low high. absurd (omega arith)))
point_at {X} p (x ∷ xs) parted = by (p x) refl (point_at p xs (tail_parted p x xs parted))
  where
    by : (b : Bool) → p x ≡ b → (how_many p xs ≤ length xs) × IsPartitionPoint (λ y. p y ≡ true) (λ y. p y ≡ false) xs (how_many p xs) →
        (length (cond b (x ∷ filter p xs) (filter p xs)) ≤ length (x ∷ xs)) × IsPartitionPoint (λ y. p y ≡ true) (λ y. p y ≡ false) (x ∷ xs) (length (cond b (x ∷ filter p xs) (filter p xs)))
    by true here rest =
        (omega (arith, rest.0), (within_cons (λ y. p y ≡ true) x xs (how_many p xs) here rest.1.0, within_tail (λ y. p y ≡ false) x xs (how_many p xs) (length xs) rest.1.1))
    by false here rest =
        let fails : (k : ℕ) (d : X) → 0 ≤ k → k < length (x ∷ xs) → p (get_or (x ∷ xs) k d) ≡ false = fail_behind p (x ∷ xs) 0 parted (λ e low. here) in
        let none : how_many p xs ≡ 0 = none_pass p xs (λ k d within. fails (suc k) d (omega arith) (omega arith)) in
        subst (λ (n : ℕ). (n ≤ length (x ∷ xs)) × IsPartitionPoint (λ y. p y ≡ true) (λ y. p y ≡ false) (x ∷ xs) n) (sym none)
        (omega arith, (λ k d low high. absurd (omega arith), fails))

-- a number is how many pass exactly where the element below it passes and the one at it fails
pub counted_iff : {X : Type 0} (p : X → Bool) (xs : List X) (i : ℕ) → IsPartitionedBy p xs → i ≤ length xs → (PassesBelow p xs i × FailsAt p xs i) ↔ (i ≡ how_many p xs)
counted_iff {X} p xs i parted within = (
  λ (both : PassesBelow p xs i × FailsAt p xs i).
      sym (how_many_at p xs i within (
        λ k d low high. parted k (i - 1) d (omega arith) (omega arith) (both.0 (get_or xs (i - 1) d) (omega arith) (slice_get-get_or xs (i - 1) d (omega arith))),
        fail_behind p xs i parted (λ d inside. both.1 (get_or xs i d) (slice_get-get_or xs i d inside)),
      )),
  λ (same : i ≡ how_many p xs).
      let point : IsPartitionPoint (λ y. p y ≡ true) (λ y. p y ≡ false) xs i = subst (IsPartitionPoint (λ y. p y ≡ true) (λ y. p y ≡ false) xs) (sym same) (point_at p xs parted).1 in (
        λ x low at. subst (λ (y : X). p y ≡ true) (get_or_from_slice_get xs (i - 1) x x at) (point.0 (i - 1) x (omega arith) (omega arith)),
        λ x at. subst (λ (y : X). p y ≡ false) (get_or_from_slice_get xs i x x at) (point.1 i x (omega arith) (slice_get_within xs i x at)),
      ),
)

-- the same of a test that answered of both
pub counted_by : {X : Type 0} (p : X → Bool) (xs : List X) (i : ℕ) (below above whole : Bool) → IsPartitionedBy p xs → i ≤ length xs →
    ((below ≡ true) ↔ PassesBelow p xs i) → ((above ≡ true) ↔ FailsAt p xs i) → ((whole ≡ true) ↔ ((below ≡ true) × (above ≡ true))) → (whole ≡ true) ↔ (i ≡ how_many p xs)
counted_by p xs i below above whole parted within passes fails both = (
  λ (yes : whole ≡ true). (counted_iff p xs i parted within).0 (passes.0 (both.0 yes).0, fails.0 (both.0 yes).1),
  λ (same : i ≡ how_many p xs). let parts : PassesBelow p xs i × FailsAt p xs i = (counted_iff p xs i parted within).1 same in both.1 (passes.1 parts.0, fails.1 parts.1),
)

-- a number past the end isn't how many pass
pub counted_past : {X : Type 0} (p : X → Bool) (xs : List X) (i : ℕ) → IsPartitionedBy p xs → length xs < i → (false ≡ true) ↔ (i ≡ how_many p xs)
counted_past p xs i parted past = (λ (no : false ≡ true). cc, λ (same : i ≡ how_many p xs). absurd (omega (arith, (point_at p xs parted).0)))

-- in a list in order, a test that passes downwards passes first
pub parted_from_sorted : {X : Type 0} (R : X → X → Ordering) (p : X → Bool) (xs : List X) → IsStrictlySortedBy R xs →
    ((x y : X) → R x y ≡ Less → p y ≡ true → p x ≡ true) → IsPartitionedBy p xs
parted_from_sorted {X} R p xs sorted down i j d low high passes = elim (cases_lt i j) [
  | inl before ↦ down (get_or xs i d) (get_or xs j d) (Less-from_sorted R xs i j d sorted before high) passes
  | inr behind ↦ let same : j ≡ i = omega arith in subst (λ (k : ℕ). p (get_or xs k d) ≡ true) same passes
]
