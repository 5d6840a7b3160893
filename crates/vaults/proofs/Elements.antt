-- Lists in order: which elements they have, and that these decide them.
use Rattle.std.proofs.Common.{Bool, true, false, not, List, [], ◌∷◌, ◌≡◌, ◌∙◌, ◌||◌, ◌&&◌, ◌↔◌, sym, ap, refl, All, filter}
use Rattle.std.specs.List.{list_any, Contains}
use Rattle.std.specs.List.Sorted.{IsStrictlySortedBy}
use Rattle.std.specs.BTreeSet.{BTreeSet, insert_key}
use Rattle.std.specs.declared.cmp.Ordering.{Ordering}
use Rattle.std.specs.declared.cmp.Ordering.TheVariants.{Less, Equal, Greater}
use Rattle.std.specs.Ordering.{eq_by_cmp, match_ordering, ordering_reverse}
use Rattle.std.specs.Cmp.{IsTotalOrder, Equal-is}
use Rattle.std.specs.FinMap.{IsAntisymmetric}
use Rattle.std.proofs.lemmas.Cmp.{eq_by_cmp_equiv}
use Rattle.std.proofs.lemmas.List.Elements.{All-from_recursion, recursion_from_All, All-weaker, All-cons}
use Rattle.std.proofs.lemmas.List.Kept.{IsStrictlySortedBy-filter}
use Rattle.std.proofs.lemmas.Map.Lookups.{btree_set_from_contains}
use Rattle.std.proofs.lemmas.Map.Views.{All-insert_key, any-filter_same, Contains-from_any, list_any-from_Contains}
use Rattle.vaults.specs.InOrder.{in_order, without}

-- an order that tells its elements apart
pub record IsExactOrder {K : Type 0} (R : K → K → Ordering) : Type 0 where
  pub total : IsTotalOrder R
  pub exact : IsAntisymmetric R

-- whether the list has the element
abbrev pub has : {K : Type 0} → (K → K → Ordering) → List K → K → Bool
has R xs x = list_any (eq_by_cmp R x) xs

or_twice : (a b : Bool) → (a || b) ≡ (a || (a || b))
or_twice true b = refl
or_twice false b = refl

pub or_swap : (a b c : Bool) → (a || (b || c)) ≡ (b || (a || c))
or_swap true true c = refl
or_swap true false c = refl
or_swap false true c = refl
or_swap false false c = refl

module _ {K : Type 0} {R : K → K → Ordering} (o : IsExactOrder R) where
  -- tied elements are equal
  pub same_from_tied : (x y : K) → eq_by_cmp R x y ≡ true → x ≡ y
  same_from_tied x y e = o.exact x y ((Equal-is (R x y)).0 e)

  pub tied_both_ways : (x y : K) → eq_by_cmp R x y ≡ eq_by_cmp R y x
  tied_both_ways x y = (eq_by_cmp_equiv o.total).symm x y

  -- an element put into its place is there, and the others stay
  pub has-insert_key : (xs : List K) (k x : K) → has R (insert_key R xs k) x ≡ (eq_by_cmp R x k || has R xs x)
  has-insert_key [] k x = refl
  has-insert_key (y ∷ xs) k x = by (R k y) refl (has-insert_key xs k x)
    where
      by : (r : Ordering) → R k y ≡ r → has R (insert_key R xs k) x ≡ (eq_by_cmp R x k || has R xs x) →
          has R (match_ordering r (k ∷ y ∷ xs) (y ∷ xs) (y ∷ insert_key R xs k)) x ≡ (eq_by_cmp R x k || (eq_by_cmp R x y || has R xs x))
      by Less e rest = refl
      by Equal e rest = or_twice (eq_by_cmp R x y) (has R xs x) ∙ ap (λ (z : K). eq_by_cmp R x z || (eq_by_cmp R x y || has R xs x)) (sym (o.exact k y e))
      by Greater e rest = ap (λ (b : Bool). eq_by_cmp R x y || b) rest ∙ or_swap (eq_by_cmp R x y) (eq_by_cmp R x k) (has R xs x)

  -- the order turned round
  pub turned : (x y : K) (r : Ordering) → R x y ≡ r → R y x ≡ ordering_reverse r
  turned x y r e = o.total.antisymm y x ∙ ap ordering_reverse e

  -- a list stays in order where an element is put into its place
  pub sorted-insert_key : (xs : List K) (k : K) → IsStrictlySortedBy R xs → IsStrictlySortedBy R (insert_key R xs k)
  unfolding IsStrictlySortedBy
  sorted-insert_key [] k sorted = (tt, tt)
  sorted-insert_key (y ∷ xs) k sorted = by (R k y) refl (sorted-insert_key xs k sorted.1)
    where
      by : (r : Ordering) → R k y ≡ r → IsStrictlySortedBy R (insert_key R xs k) → IsStrictlySortedBy R (match_ordering r (k ∷ y ∷ xs) (y ∷ xs) (y ∷ insert_key R xs k))
      by Less e rest =
          let above : All (λ z. R k z ≡ Less) xs = All-weaker (λ z. R y z ≡ Less) (λ z. R k z ≡ Less) (λ z h. o.total.trans k y z e h) xs (All-from_recursion (λ z. R y z ≡ Less) xs sorted.0) in
          (recursion_from_All (λ z. R k z ≡ Less) (y ∷ xs) (All-cons (λ z. R k z ≡ Less) y xs e above), sorted)
      by Equal e rest = sorted
      by Greater e rest =
          (recursion_from_All (λ z. R y z ≡ Less) (insert_key R xs k) (All-insert_key R k (λ z. R y z ≡ Less) xs (All-from_recursion (λ z. R y z ≡ Less) xs sorted.0) (turned k y Greater e)), rest)

  -- a list put in order has the same elements
  pub has-in_order : (xs : List K) (x : K) → has R (in_order R xs) x ≡ has R xs x
  has-in_order [] x = refl
  has-in_order (y ∷ xs) x = has-insert_key (in_order R xs) y x ∙ ap (λ (b : Bool). eq_by_cmp R x y || b) (has-in_order xs x)

  pub sorted-in_order : (xs : List K) → IsStrictlySortedBy R (in_order R xs)
  unfolding IsStrictlySortedBy
  sorted-in_order [] = tt
  sorted-in_order (y ∷ xs) = sorted-insert_key (in_order R xs) y (sorted-in_order xs)

  -- what a filter keeps
  pub has-filter : (p : K → Bool) (xs : List K) (x : K) → has R (filter p xs) x ≡ (p x && has R xs x)
  has-filter p xs x = any-filter_same (eq_by_cmp R x) p (p x) (λ y tied. ap p (sym (same_from_tied x y tied))) xs

  -- a list without an element
  pub has-without : (xs : List K) (k x : K) → has R (without R k xs) x ≡ (not (eq_by_cmp R k x) && has R xs x)
  has-without xs k x = has-filter (λ y. not (eq_by_cmp R k y)) xs x

  pub sorted-without : (xs : List K) (k : K) → IsStrictlySortedBy R xs → IsStrictlySortedBy R (without R k xs)
  sorted-without xs k sorted = IsStrictlySortedBy-filter R (λ y. not (eq_by_cmp R k y)) xs sorted

  -- two lists in order with the same elements are one
  pub same_in_order : (xs ys : List K) → IsStrictlySortedBy R xs → IsStrictlySortedBy R ys → ((x : K) → has R xs x ≡ has R ys x) → xs ≡ ys
  same_in_order xs ys in_xs in_ys same =
      let s : BTreeSet K = record { keys = xs } in
      let t : BTreeSet K = record { keys = ys } in
      btree_set_from_contains o.total s t in_xs in_ys same o.exact

  -- to have an element is to contain it
  pub has_iff : (xs : List K) (x : K) → (has R xs x ≡ true) ↔ Contains xs x
  has_iff xs x = (Contains-from_any same_from_tied x xs, list_any-from_Contains (eq_by_cmp_equiv o.total) x xs)
