-- Nodes' lists that get one more element, and records that are made.
use Rattle.std.proofs.Common.{ℕ, zero, suc, ◌<◌, ◌≡◌, ◌∙◌, ◌⊎◌, inl, inr, ap, sym, subst, refl, Bool, true, false, cond, List, [], ◌∷◌, ◌++◌, Option, Some, None, Contains, length, filter, get_or, set, map, slice_get, Result, Ok, Err, OnErr, ◌≤◌, ◌==◌, arith}
use Rattle.std.specs.Option.{option_map}
use Rattle.std.proofs.lemmas.List.Elements.{Contains-push}
use Rattle.std.proofs.lemmas.List.{map-set, get_or-map, length-map, map_push, get_or_past, get_or-set_same, get_or-set_other}
use Rattle.std.proofs.lemmas.Option.{none-some, same_Some, slice_get-map, slice_get_within, slice_get-get_or, get_or_from_slice_get}
use Rattle.std.proofs.lemmas.Bool.{cases_eq, cond-true, cond-false, eq-eqb, ne_eqb}
use Rattle.std.proofs.Math.Seq.{map-set_same}
use Rattle.cred_graph.specs.declared.listeners.KeptListening.{KeptListening}
use Rattle.cred_graph.specs.declared.node_lists.NodeLists.{NodeLists}
use Rattle.cred_graph.specs.NodeLists.{list_at, AreSame, AddsAt}

-- elements of a list by their places, where the list grows at its end

pub Contains-at_place : {X : Type 0} (xs : List X) (k : ℕ) (x : X) → slice_get xs k ≡ Some x → Contains xs x
Contains-at_place xs k x e = (k, slice_get_within xs k x e, get_or_from_slice_get xs k x x e)

pub place_of_Contains : {X : Type 0} (xs : List X) (x : X) → Contains xs x → (k : ℕ) × (slice_get xs k ≡ Some x)
place_of_Contains xs x (k, within, is) = (k, slice_get-get_or xs k x within ∙ ap Some is)

-- what is at a place stays there
pub slice_get_stays : {X : Type 0} (xs ys : List X) (k : ℕ) (x : X) → slice_get xs k ≡ Some x → slice_get (xs ++ ys) k ≡ Some x
slice_get_stays [] ys k x e = absurd (none-some x e)
slice_get_stays (y ∷ xs) ys zero x e = e
slice_get_stays (y ∷ xs) ys (suc k) x e = slice_get_stays xs ys k x e

-- what is at a place was there, or is the new element
pub slice_get_push_cases : {X : Type 0} (xs : List X) (y : X) (k : ℕ) (x : X) → slice_get (xs ++ y ∷ []) k ≡ Some x → (slice_get xs k ≡ Some x) ⊎ ((k ≡ length xs) × (y ≡ x))
slice_get_push_cases [] y zero x e = inr (refl, same_Some y x e)
slice_get_push_cases [] y (suc k) x e = absurd (none-some x e)
slice_get_push_cases (z ∷ xs) y zero x e = inl e
slice_get_push_cases (z ∷ xs) y (suc k) x e =
    elim (slice_get_push_cases xs y k x e) [ inl before ↦ inl before | inr new ↦ inr (ap suc new.0, new.1) ]

-- what is at a list's last place is the new element
pub slice_get_pushed : {X : Type 0} (xs : List X) (y : X) → slice_get (xs ++ y ∷ []) (length xs) ≡ Some y
slice_get_pushed [] y = refl
slice_get_pushed (x ∷ xs) y = slice_get_pushed xs y

-- lists seen by f, where the list at a place has got one more element
pub map-pushed_at : {A B : Type 0} (f : A → List B) (xs : List A) (n : ℕ) (old new : A) (y : B) → n < length xs → old ≡ get_or xs n old → f new ≡ f old ++ y ∷ [] →
    map f (set xs n new) ≡ set (map f xs) n (get_or (map f xs) n [] ++ y ∷ [])
map-pushed_at f xs n old new y within at is =
    map-set f xs n new ∙ ap (set (map f xs) n) (is ∙ ap (λ l. l ++ y ∷ []) (ap f at ∙ sym (get_or-map f xs n old [] within)))

-- an element that was added is there
pub pushed_there : {X : Type 0} (xs after : List X) (x : X) → after ≡ xs ++ x ∷ [] → Contains after x
pushed_there xs after x is = subst (λ l. Contains l x) (sym is) (Contains-push xs x)

-- two functions that agree at each element
pub map_same : {X Y : Type 0} (f g : X → Y) (xs : List X) → ((j : ℕ) (x : X) → slice_get xs j ≡ Some x → f x ≡ g x) → map f xs ≡ map g xs
map_same f g [] agree = refl
map_same f g (x ∷ xs) agree = ap (λ y. y ∷ map f xs) (agree 0 x refl) ∙ ap (λ l. g x ∷ l) (map_same f g xs (λ j. agree (suc j)))

from_map : {X Y : Type 0} (f : X → Y) (o : Option X) (y : Y) → option_map f o ≡ Some y → (x : X) × (o ≡ Some x) × (f x ≡ y)
from_map f None y is = absurd (none-some y is)
from_map f (Some x) y is = (x, refl, same_Some (f x) y is)

-- the element that is seen as this one
pub behind_map : {X Y : Type 0} (f : X → Y) (xs : List X) (y : Y) → Contains (map f xs) y → (j : ℕ) × (x : X) × (slice_get xs j ≡ Some x) × (f x ≡ y)
behind_map f xs y stands =
    let at = place_of_Contains (map f xs) y stands in
    let found = from_map f (slice_get xs at.0) y (sym (slice_get-map f xs at.0) ∙ at.1) in
    (at.0, found.0, found.1, found.2)

-- an element is seen where it stands
pub seen_at : {X Y : Type 0} (f : X → Y) (xs : List X) (j : ℕ) (x : X) → slice_get xs j ≡ Some x → slice_get (map f xs) j ≡ Some (f x)
seen_at f xs j x at = slice_get-map f xs j ∙ ap (option_map f) at

-- of the elements as they are seen, those that pass
pub filter_mapped : {X Y : Type 0} (p : Y → Bool) (f : X → Y) (xs : List X) → filter p (map f xs) ≡ map f (filter (λ x. p (f x)) xs)
filter_mapped p f [] = refl
filter_mapped p f (x ∷ xs) =
    let rest = filter_mapped p f xs in
    elim (p (f x)) as (λ b. cond b (f x ∷ filter p (map f xs)) (filter p (map f xs)) ≡ map f (cond b (x ∷ filter (λ y. p (f y)) xs) (filter (λ y. p (f y)) xs))) [
      | true ↦ ap (λ l. f x ∷ l) rest
      | false ↦ rest
    ]

-- what holds holds where a call failed
pub on_err : {T E P : Type 0} (r : Result T E) → P → OnErr r P
on_err (Ok x) p = tt
on_err (Err e) p = p

filtered_step : {X : Type 0} (p : X → Bool) (y : X) (xs : List X) (x : X) → ((i : ℕ) → slice_get (filter p xs) i ≡ Some x → (j : ℕ) × (slice_get xs j ≡ Some x)) →
    (b : Bool) (i : ℕ) → slice_get (cond b (y ∷ filter p xs) (filter p xs)) i ≡ Some x → (j : ℕ) × (slice_get (y ∷ xs) j ≡ Some x)
filtered_step p y xs x rest true zero at = (0, at)
filtered_step p y xs x rest true (suc i) at = let there = rest i at in (suc there.0, there.1)
filtered_step p y xs x rest false i at = let there = rest i at in (suc there.0, there.1)

-- an element that passes is one of all
pub filtered_from : {X : Type 0} (p : X → Bool) (xs : List X) (i : ℕ) (x : X) → slice_get (filter p xs) i ≡ Some x → (j : ℕ) × (slice_get xs j ≡ Some x)
filtered_from p [] i x at = absurd (none-some x at)
filtered_from p (y ∷ xs) i x at = filtered_step p y xs x (λ k. filtered_from p xs k x) (p y) i at

pub map-map : {X Y Z : Type 0} (f : Y → Z) (g : X → Y) (xs : List X) → map f (map g xs) ≡ map (λ x. f (g x)) xs
map-map f g [] = refl
map-map f g (x ∷ xs) = ap (λ l. f (g x) ∷ l) (map-map f g xs)

abbrev pub listeners_in : List NodeLists → List (List KeptListening)
listeners_in = map (λ r. r.listeners.items)

abbrev pub members_in : List NodeLists → List (List ℕ)
members_in = map (λ r. r.members.items)

empty_last : {X : Type 0} (lists : List (List X)) → AreSame lists (lists ++ [] ∷ [])
empty_last [] zero = refl
empty_last [] (suc m) = refl
empty_last (l ∷ lists) zero = refl
empty_last (l ∷ lists) (suc m) = empty_last lists m

module _ {R X : Type 0} (f : R → List X) where
  -- the list of the record that is there, or of none
  pub entry_at : (all : List R) (n : ℕ) (one : R) → n < length all → one ≡ get_or all n one → f one ≡ list_at (map f all) n
  entry_at all n one within at = ap f at ∙ sym (get_or-map f all n one [] within)

  pub no_entry : (all : List R) (n : ℕ) → length all ≤ n → [] ≡ list_at (map f all) n
  no_entry all n beyond = sym (get_or_past (map f all) n [] (omega (arith, length-map all f)))

  -- an empty record is made
  pub entry_made : (old all after : List R) (one : R) → AreSame (map f old) (map f all) → after ≡ all ++ one ∷ [] → f one ≡ [] → AreSame (map f old) (map f after)
  entry_made old all after one same is empty m =
      ap (λ rs. list_at (map f rs) m) is
      ∙ ap (λ ls. list_at ls m) (map_push f all one ∙ ap (λ l. map f all ++ l ∷ []) empty)
      ∙ empty_last (map f all) m ∙ same m

  -- a record is another with the same list, or with a list that has got one more element
  module _ (old : List (List X)) (all : List R) (n : ℕ) (was one : R) (same : AreSame old (map f all)) (at : was ≡ get_or all n was) where
    pub entry_kept : f one ≡ f was → AreSame old (map f (set all n one))
    entry_kept is m = ap (λ ls. list_at ls m) (map-set_same f all n one was (is ∙ ap f at)) ∙ same m

    pub entry_adds : (x : X) → n < length all → f one ≡ f was ++ x ∷ [] → AddsAt old (map f (set all n one)) n x
    entry_adds x within is m =
        let longer = list_at (map f all) n ++ x ∷ [] in
        ap (λ ls. list_at ls m) (map-pushed_at f all n was one x within at is) ∙ elim (cases_eq m n) [
          | inl here ↦
              ap (list_at (set (map f all) n longer)) here
              ∙ get_or-set_same (map f all) n longer [] (subst (λ k. n < k) (sym (length-map all f)) within)
              ∙ ap (λ l. l ++ x ∷ []) (same n) ∙ ap (λ i. list_at old i ++ x ∷ []) (sym here)
              ∙ sym (cond-true (m == n) (list_at old m ++ x ∷ []) (list_at old m) (eq-eqb m n here))
          | inr other ↦
              get_or-set_other (map f all) n m longer [] other ∙ same m
              ∙ sym (cond-false (m == n) (list_at old m ++ x ∷ []) (list_at old m) (ne_eqb m n other))
        ]
