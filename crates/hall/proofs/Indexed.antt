-- Finite maps as tables of entries hold them: what the calls of a table do to the map that it stands for.
use Rattle.std.proofs.Common.{◌≡◌, ◌∙◌, ℕ, Bool, true, false, cond, ◌+◌, List, [], ◌∷◌, length, slice_get, Option, Some, None, MatchOption, is_some, option_map, sym, ap, refl, arith}
use Rattle.std.specs.declared.cmp.Ordering.{Ordering}
use Rattle.std.specs.Ordering.{eq_by_cmp}
use Rattle.std.specs.Cmp.{eq_by_cmp_equiv}
use Rattle.std.specs.FinMap.{get, insert, remove, len, from_entries, find, get-from_entries, get-insert, get-remove, len-empty, len-insert}
use Rattle.std.specs.List.{AllByRecursion, IsDistinct}
use Rattle.std.specs.Map.{keys_of, lookup}
use Rattle.std.proofs.lemmas.Map.Keys.{IsDistinct-head, IsDistinct-tail}
use Rattle.std.proofs.lemmas.List.Elements.{All-contains, All-from_recursion}
use Rattle.std.proofs.lemmas.Map.Entries.{lookup_from_place}
use Rattle.std.proofs.lemmas.Map.Views.{Contains-from_lookup}
use Rattle.std.proofs.lemmas.Option.{same_Some, none-some, slice_get-map}
use Rattle.std.specs.Cmp.{IsEquivalence}
use Rattle.indexmap.specs.IndexMap.{IndexMap, Updates, IsUnique, values, with_value_at}
use Rattle.indexmap.proofs.CallerLemmas.{updates-with_value_at}
use Rattle.vaults.proofs.Elements.{IsExactOrder, same_from_tied, tied_both_ways}
use Rattle.hall.proofs.AtHand.{IsPlaceOf}
use Rattle.hall.proofs.Maps.{same_answers}

-- what a table calls equal, its order ties
abbrev pub Agrees : {K : Type 0} → (K → K → Ordering) → (K → K → Bool) → Type 0
Agrees {K} R eq = (a b : K) → eq_by_cmp R a b ≡ eq a b

module _ {K : Type 0} {R : K → K → Ordering} (o : IsExactOrder R) (eq : K → K → Bool) (agree : Agrees R eq) where
  -- a key has what the table finds
  pub looked_up : {X : Type 0} (es : List (K × X)) (k : K) → get (from_entries {R = R} es) k ≡ lookup (eq k) es
  looked_up {X} es k = get-from_entries o.total es k ∙ by es
    where
      by : (fs : List (K × X)) → find R k fs ≡ lookup (eq k) fs
      by [] = refl
      by (f ∷ fs) = λ i. cond (agree k f.0 i) (Some f.1) (by fs i)

  turned : (k q : K) → eq k q ≡ eq_by_cmp R q k
  turned k q = sym (agree k q) ∙ tied_both_ways o k q

  module _ {X S : Type 0} (m n : IndexMap K X S) (k : K) where
    -- an entry that is put in is inserted
    pub inserted : (v : X) → Updates eq m n k (Some v) → from_entries {R = R} n.entries ≡ insert (from_entries m.entries) k v
    inserted v updates =
        same_answers o _ _
        (λ q. looked_up n.entries q ∙ updates.0 q ∙ (λ i. cond (turned k q i) (Some v) (sym (looked_up m.entries q) i))
        ∙ sym (get-insert o.total (from_entries m.entries) k v q))

    -- an entry that is taken out is removed
    pub removed : Updates eq m n k None → from_entries {R = R} n.entries ≡ remove (from_entries m.entries) k
    removed updates =
        same_answers o _ _
        (λ q. looked_up n.entries q ∙ updates.0 q ∙ (λ i. cond (turned k q i) None (sym (looked_up m.entries q) i))
        ∙ sym (get-remove o.total (from_entries m.entries) k q))

  laws : IsEquivalence eq
  laws =
      let ties = eq_by_cmp_equiv o.total in
      record {
        refl = λ x. sym (agree x x) ∙ ties.refl x;
        symm = λ x y. turned x y ∙ agree y x;
        congr = λ x y z same. sym (agree x z) ∙ ties.congr x y z (agree x y ∙ same) ∙ agree y z;
      }

  -- an entry at a key's place
  module _ {X S : Type 0} (m : IndexMap K X S) (k : K) (at : ℕ) (v : X) (unique : IsUnique eq m)
      (place : IsPlaceOf (eq k) m.entries at) (value : slice_get (values m) at ≡ Some v) where
    stands : slice_get m.entries at ≡ Some (k, v)
    stands = by (slice_get m.entries at) refl place
      where
        by : (f : Option (K × X)) → slice_get m.entries at ≡ f → MatchOption f (lookup (eq k) m.entries ≡ None) (λ e. eq k e.0 ≡ true) → slice_get m.entries at ≡ Some (k, v)
        by None is none = absurd (none-some _ (sym (slice_get-map (λ (x : K × X). x.1) m.entries at ∙ ap (option_map (λ (x : K × X). x.1)) is) ∙ value))
        by (Some e) is same =
            let key : k ≡ e.0 = same_from_tied o k e.0 (agree k e.0 ∙ same) in
            let held : e.1 ≡ v = same_Some _ _ (sym (slice_get-map (λ (x : K × X). x.1) m.entries at ∙ ap (option_map (λ (x : K × X). x.1)) is) ∙ value) in
            is ∙ (λ i. Some (sym key i, held i))

    -- is what the map has for the key
    pub found_there : lookup (eq k) m.entries ≡ Some v
    found_there = lookup_from_place laws m.entries at k v unique stands

    -- and a value that is written there is inserted
    pub written_there : (w : X) → from_entries {R = R} (with_value_at m at w).entries ≡ insert (from_entries m.entries) k w
    written_there w = inserted m (with_value_at m at w) k w (updates-with_value_at m at w laws unique k v stands)

  -- what holds of each entry holds of what a key has
  pub all_found : {X : Type 0} (P : K × X → Type 0) (es : List (K × X)) → AllByRecursion P es → (k : K) (v : X) →
      get (from_entries {R = R} es) k ≡ Some v → P (k, v)
  all_found P es all k v there =
      All-contains P es (k, v) (All-from_recursion P es all)
      (Contains-from_lookup (λ x y same. same_from_tied o x y (agree x y ∙ same)) k v es (sym (looked_up es k) ∙ there))

  absent : {X : Type 0} (k : K) (es : List (K × X)) → AllByRecursion (λ y. eq k y ≡ false) (keys_of es) → lookup (eq k) es ≡ None
  absent k [] apart = refl
  absent k (e ∷ es) apart = ap (λ b. cond b (Some e.1) (lookup (eq k) es)) apart.0 ∙ absent k es apart.1

  -- the map of distinct keys is as long as the table
  pub counted : {X : Type 0} (es : List (K × X)) → IsDistinct eq (keys_of es) → len (from_entries {R = R} es) ≡ length es
  counted {X} [] distinct = len-empty R X
  counted {X} (e ∷ es) distinct =
      let rest : len (from_entries {R = R} es) ≡ length es = counted es (IsDistinct-tail eq e.0 (keys_of es) distinct) in
      let new : is_some (get (from_entries {R = R} es) e.0) ≡ false =
      ap is_some (looked_up es e.0 ∙ absent e.0 es (IsDistinct-head eq e.0 (keys_of es) distinct)) in
      len-insert o.total (from_entries es) e.0 e.1
      ∙ ap (λ b. cond b (len (from_entries {R = R} es)) (len (from_entries {R = R} es) + 1)) new ∙ omega arith
