-- What a binary search finds in a list in order, and what an edit at its place gives.
use Rattle.std.proofs.Common.{ℕ, zero, suc, Bool, drop, true, false, cond, not, List, [], ◌∷◌, ◌≡◌, ◌∙◌, ◌+◌, ◌<◌, ◌≤◌, ◌||◌, sym, ap, refl, subst, All, length, get_or, arith, insert, remove, Result, Ok, Err, is_ok, inl, inr}
use Rattle.std.specs.List.{HoldsAt}
use Rattle.std.specs.List.Sorted.{IsStrictlySortedBy, IsSortedBy, IsPartitionPoint, IsBinarySearchResult, IsSearchInRange}
use Rattle.std.specs.BTreeSet.{insert_key}
use Rattle.std.specs.declared.cmp.Ordering.{Ordering}
use Rattle.std.specs.declared.cmp.Ordering.TheVariants.{Less, Equal, Greater}
use Rattle.std.specs.Ordering.{eq_by_cmp, is_eq, is_lt, match_ordering}
use Rattle.std.proofs.lemmas.Bool.{cases_lt, or_parts}
use Rattle.std.proofs.lemmas.Option.{slice_get_read, get_or_from_slice_get}
use Rattle.std.proofs.lemmas.List.Elements.{All-from_recursion, All-weaker}
use Rattle.std.proofs.lemmas.List.Sorted.{searchable_from_sorted}
use Rattle.std.proofs.lemmas.List.Folds.{list_any_none, list_any_at}
use Rattle.std.proofs.lemmas.Map.Keys.{Less-from_sorted, sorted_head, sorted_tail}
use Rattle.vaults.specs.InOrder.{IsPlace, without}
use Rattle.vaults.proofs.Elements.{IsExactOrder, has, turned, tied_both_ways, same_from_tied, same_in_order, sorted-insert_key, has-insert_key}

module _ {K : Type 0} {R : K → K → Ordering} (o : IsExactOrder R) where
  rises : (xs : List K) → IsStrictlySortedBy R xs → IsSortedBy (λ a b. is_lt (R a b)) xs
  rises xs sorted k d low high = ap is_lt (turned o (get_or xs k d) (get_or xs (k + 1) d) Less (Less-from_sorted R xs k (k + 1) d sorted (omega arith) high))

  -- a binary search finds the element or its place
  pub place_found : (xs : List K) (x : K) (r : Result ℕ ℕ) → IsStrictlySortedBy R xs → IsSearchInRange r (length xs) → IsBinarySearchResult (λ y. R y x) xs r → IsPlace R xs x r
  place_found xs x (Ok i) sorted within found = (within, found)
  place_found xs x (Err i) sorted within found = (within, found (searchable_from_sorted o.total (λ (y : K). y) xs x (rises xs sorted)))

  -- what is above the last of a list in order would stand behind it
  pub place_behind : (xs : List K) (x last : K) (n : ℕ) → IsStrictlySortedBy R xs → n + 1 ≡ length xs → last ≡ get_or xs n last → is_lt (R last x) ≡ true → IsPlace R xs x (Err (length xs))
  place_behind xs x last n sorted long at above = (
    omega arith,
    (λ k d low high. below k d high, λ k d low high. absurd (omega (arith, low, high))),
  )
    where
      less : (r : Ordering) → is_lt r ≡ true → r ≡ Less
      less Less e = refl
      less Equal e = cc
      less Greater e = cc

      is : (d : K) → get_or xs n d ≡ last
      is d = get_or_from_slice_get xs n last d (slice_get_read xs (length xs) n last refl (omega (arith, long)) at)

      below : (k : ℕ) (d : K) → k < length xs → R (get_or xs k d) x ≡ Less
      below k d within = elim (cases_lt k n) [
        | inl before ↦
            o.total.trans (get_or xs k d) last x
            (subst (λ (y : K). R (get_or xs k d) y ≡ Less) (is d) (Less-from_sorted R xs k n d sorted before (omega (arith, long))))
            (less (R last x) above)
        | inr behind ↦
            let same : n ≡ k = omega (arith, behind, within, long) in
            subst (λ (y : K). R y x ≡ Less) (sym (ap (λ (m : ℕ). get_or xs m d) (sym same) ∙ is d)) (less (R last x) above)
      ]

  -- what stands behind in a list in order is in order
  pub sorted_behind : (n : ℕ) (xs : List K) → IsStrictlySortedBy R xs → IsStrictlySortedBy R (drop n xs)
  sorted_behind zero xs sorted = sorted
  sorted_behind (suc n) [] sorted = sorted
  sorted_behind (suc n) (x ∷ xs) sorted = sorted_behind n xs (sorted_tail R x xs sorted)

  -- it answers Ok where the list has the element
  pub is_ok-place : (xs : List K) (x : K) (r : Result ℕ ℕ) → IsPlace R xs x r → is_ok r ≡ has R xs x
  is_ok-place xs x (Ok i) place = sym (list_any_at (eq_by_cmp R x) xs i x place.0 (tied_both_ways o x (get_or xs i x) ∙ ap is_eq (place.1 x)))
  is_ok-place xs x (Err i) place = sym (list_any_none (eq_by_cmp R x) xs apart)
    where
      apart : All (λ y. eq_by_cmp R x y ≡ false) xs
      apart k d within = elim (cases_lt k i) [
        | inl before ↦ ap is_eq (turned o (get_or xs k d) x Less (place.1.0 k d (omega arith) before))
        | inr behind ↦ ap is_eq (turned o (get_or xs k d) x Greater (place.1.1 k d behind within))
      ]

  -- to insert at its place is to put it into its place
  pub insert_at_place : (xs : List K) (x : K) (i : ℕ) → i ≤ length xs → IsPartitionPoint (λ y. R y x ≡ Less) (λ y. R y x ≡ Greater) xs i → insert xs i x ≡ insert_key R xs x
  insert_at_place [] x zero within place = refl
  insert_at_place [] x (suc i) within place = absurd (omega arith)
  insert_at_place (y ∷ xs) x zero within place =
      ap (λ (r : Ordering). match_ordering r (x ∷ y ∷ xs) (y ∷ xs) (y ∷ insert_key R xs x)) (sym (turned o y x Greater (place.1 0 y (omega arith) (omega arith))))
  insert_at_place (y ∷ xs) x (suc i) within place =
      ap (λ (l : List K). y ∷ l) (insert_at_place xs x i (omega arith) (
        λ k d low high. place.0 (suc k) d (omega arith) (omega arith),
        λ k d low high. place.1 (suc k) d (omega arith) (omega arith),
      ))
      ∙ ap (λ (r : Ordering). match_ordering r (x ∷ y ∷ xs) (y ∷ xs) (y ∷ insert_key R xs x)) (sym (turned o y x Less (place.0 0 y (omega arith) (omega arith))))

  -- an element that isn't there can't be taken out
  pub without_absent : (xs : List K) (x : K) → has R xs x ≡ false → without R x xs ≡ xs
  without_absent [] x absent = refl
  without_absent (y ∷ xs) x absent =
      let parts : (eq_by_cmp R x y ≡ false) × (has R xs x ≡ false) = or_parts (eq_by_cmp R x y) (has R xs x) absent in
      ap (λ (b : Bool). cond (not b) (y ∷ without R x xs) (without R x xs)) parts.0 ∙ ap (λ (l : List K). y ∷ l) (without_absent xs x parts.1)

  -- the first of a list in order stands there once
  pub absent_behind : (y : K) (xs : List K) → IsStrictlySortedBy R (y ∷ xs) → has R xs y ≡ false
  absent_behind y xs sorted =
      list_any_none (eq_by_cmp R y) xs
      (All-weaker (λ z. R y z ≡ Less) (λ z. eq_by_cmp R y z ≡ false) (λ z below. ap is_eq below) xs (All-from_recursion (λ z. R y z ≡ Less) xs (sorted_head R y xs sorted)))

  -- to remove at its place is to be without it
  pub remove_at_place : (xs : List K) (x : K) (i : ℕ) → IsStrictlySortedBy R xs → i < length xs → HoldsAt (λ y. R y x ≡ Equal) xs i → remove xs i ≡ without R x xs
  remove_at_place [] x i sorted within at = absurd (omega arith)
  remove_at_place (y ∷ xs) x zero sorted within at =
      let same : y ≡ x = o.exact y x (at y) in
      sym (without_absent xs x (subst (λ (z : K). has R xs z ≡ false) same (absent_behind y xs sorted)))
      ∙ sym (ap (λ (b : Bool). cond (not b) (y ∷ without R x xs) (without R x xs)) (tied_both_ways o x y ∙ ap is_eq (at y)))
  remove_at_place (y ∷ xs) x (suc i) sorted within at =
      let same : get_or xs i x ≡ x = o.exact (get_or xs i x) x (at x) in
      let below : R y x ≡ Less = subst (λ (z : K). R y z ≡ Less) same (Less-from_sorted R (y ∷ xs) 0 (suc i) x sorted (omega arith) within) in
      ap (λ (l : List K). y ∷ l) (remove_at_place xs x i (sorted_tail R y xs sorted) (omega arith) (λ d. at d))
      ∙ sym (ap (λ (b : Bool). cond (not b) (y ∷ without R x xs) (without R x xs)) (ap is_eq (turned o y x Less below)))

  -- an element that is there is not put in again
  pub insert_key-present : (xs : List K) (x : K) → IsStrictlySortedBy R xs → has R xs x ≡ true → xs ≡ insert_key R xs x
  insert_key-present xs x sorted present = same_in_order o xs (insert_key R xs x) sorted (sorted-insert_key o xs x sorted) (λ y. by y (eq_by_cmp R y x) refl ∙ sym (has-insert_key o xs x y))
    where
      by : (y : K) (b : Bool) → eq_by_cmp R y x ≡ b → has R xs y ≡ (b || has R xs y)
      by y true e = ap (has R xs) (same_from_tied o y x e) ∙ present
      by y false e = refl

  -- the same in the words of a function that searches ys, which are xs, and leaves zs
  pub has_searched : (xs ys : List K) (x : K) (r : Result ℕ ℕ) → ys ≡ xs → IsPlace R ys x r → is_ok r ≡ has R xs x
  has_searched xs ys x r same place = is_ok-place ys x r place ∙ ap (λ (l : List K). has R l x) same

  pub inserted_there : (xs ys zs : List K) (x y : K) (i : ℕ) → ys ≡ xs → IsPlace R ys x (Err i) → y ≡ x → zs ≡ insert xs i y → zs ≡ insert_key R xs x
  inserted_there xs ys zs x y i same place copy after =
      let at : IsPlace R xs x (Err i) = subst (λ (l : List K). IsPlace R l x (Err i)) same place in
      after ∙ ap (insert xs i) copy ∙ insert_at_place xs x i at.0 at.1

  pub there_already : (xs ys : List K) (x : K) (i : ℕ) → IsStrictlySortedBy R xs → ys ≡ xs → IsPlace R ys x (Ok i) → xs ≡ insert_key R xs x
  there_already xs ys x i sorted same place = insert_key-present xs x sorted (sym (has_searched xs ys x (Ok i) same place))

  pub removed_there : (xs ys zs : List K) (x : K) (i : ℕ) → IsStrictlySortedBy R xs → ys ≡ xs → IsPlace R ys x (Ok i) → zs ≡ remove xs i → zs ≡ without R x xs
  removed_there xs ys zs x i sorted same place after =
      let at : IsPlace R xs x (Ok i) = subst (λ (l : List K). IsPlace R l x (Ok i)) same place in
      after ∙ remove_at_place xs x i sorted at.0 at.1

  pub gone_already : (xs ys : List K) (x : K) (i : ℕ) → ys ≡ xs → IsPlace R ys x (Err i) → xs ≡ without R x xs
  gone_already xs ys x i same place = sym (without_absent xs x (sym (has_searched xs ys x (Err i) same place)))
