-- What the look-ups of a table find, where the keys' `==` is equality.
use Rattle.std.proofs.Common.{ℕ, zero, suc, ◌≡◌, ◌∙◌, ◌↔◌, ap, sym, inl, inr, Bool}
use Rattle.std.proofs.Common.{true, false, true≢false, List, [], ◌∷◌, ◌++◌, Some, None, Contains, get_or, slice_get}
use Rattle.std.specs.Bool.{Decides}
use Rattle.std.specs.List.{list_any, position}
use Rattle.std.specs.Map.{lookup, lookup_key}
use Rattle.std.proofs.lemmas.Bool.{cases_Bool, or_left, or_right, cond-true, cond-false, false_from_ne_true}
use Rattle.std.proofs.lemmas.List.Quantifiers.{position-Some}
use Rattle.std.proofs.lemmas.Option.{none-some, same_Some, slice_get-get_or}
use Rattle.indexmap.specs.IndexSet.{insert_key}
use Rattle.indexmap.proofs.CallerLemmas.{Contains-list_any}
use Rattle.cred_graph.proofs.NodeListLemmas.{place_of_Contains}

module _ {K : Type 0} (eq : K → K → Bool) (exact : (x y : K) → Decides (eq x y) (x ≡ y)) where
  any_at : (ks : List K) (k : K) (j : ℕ) → slice_get ks j ≡ Some k → list_any (eq k) ks ≡ true
  any_at [] k j at = absurd (none-some k at)
  any_at (x ∷ ks) k zero at = or_left (eq k x) (list_any (eq k) ks) ((exact k x).1 (sym (same_Some x k at)))
  any_at (x ∷ ks) k (suc j) at = or_right (eq k x) (list_any (eq k) ks) (any_at ks k j at)

  pub any_exact : (ks : List K) (k : K) → (list_any (eq k) ks ≡ true) ↔ Contains ks k
  any_exact ks k = (
    Contains-list_any eq (λ x y. (exact x y).0) ks k,
    λ (stands : Contains ks k). let at = place_of_Contains ks k stands in any_at ks k at.0 at.1,
  )

  -- a key stands where it is found
  pub stands_at : (ks : List K) (k : K) (i : ℕ) → position (eq k) ks ≡ Some i → slice_get ks i ≡ Some k
  stands_at ks k i found =
      let passes = position-Some (eq k) ks i k found in
      slice_get-get_or ks i k passes.0 ∙ ap Some (sym ((exact k (get_or ks i k)).0 passes.1))

  -- a key that isn't found isn't there
  pub not_found : (ks : List K) (k : K) → false ≡ list_any (eq k) ks → Contains ks k → ⊥
  not_found ks k none stands = true≢false (sym ((any_exact ks k).1 stands) ∙ sym none)

  -- a key that isn't there goes last
  pub insert_key-absent : (ks : List K) (k : K) → (Contains ks k → ⊥) → insert_key eq ks k ≡ ks ++ k ∷ []
  insert_key-absent ks k absent =
      cond-false (list_any (eq k) ks) ks (ks ++ k ∷ []) (false_from_ne_true (list_any (eq k) ks) (λ there. absent ((any_exact ks k).0 there)))

  module _ {V : Type 0} where
    pub lookup_key_is : (es : List (K × V)) (k x : K) → lookup_key (eq k) es ≡ Some x → k ≡ x
    lookup_key_is [] k x found = absurd (none-some x found)
    lookup_key_is (e ∷ es) k x found = elim (cases_Bool (eq k e.0)) [
      | inl same ↦ (exact k e.0).0 same ∙ same_Some e.0 x (sym (cond-true (eq k e.0) (Some e.0) (lookup_key (eq k) es) same) ∙ found)
      | inr other ↦ lookup_key_is es k x (sym (cond-false (eq k e.0) (Some e.0) (lookup_key (eq k) es) other) ∙ found)
    ]

    -- where a key is found an entry has it
    pub lookup_key_there : (es : List (K × V)) (k x : K) → lookup_key (eq k) es ≡ Some x → (j : ℕ) × (v : V) × (slice_get es j ≡ Some (k, v))
    lookup_key_there [] k x found = absurd (none-some x found)
    lookup_key_there (e ∷ es) k x found = elim (cases_Bool (eq k e.0)) [
      | inl same ↦ (zero, e.1, λ i. Some ((sym ((exact k e.0).0 same)) i, e.1))
      | inr other ↦ let rest = lookup_key_there es k x (sym (cond-false (eq k e.0) (Some e.0) (lookup_key (eq k) es) other) ∙ found) in (suc rest.0, rest.1, rest.2)
    ]

    lookup_none_step : (f : K × V) (es : List (K × V)) (k : K) (e : K × V) → k ≡ e.0 → eq k f.0 ≡ false →
        ((j : ℕ) (e : K × V) → slice_get es j ≡ Some e → k ≡ e.0 → ⊥) → (j : ℕ) → slice_get (f ∷ es) j ≡ Some e → ⊥
    lookup_none_step f es k e same other rest zero at = true≢false (sym ((exact k f.0).1 (same ∙ ap (λ (x : K × V). x.0) (sym (same_Some f e at)))) ∙ other)
    lookup_none_step f es k e same other rest (suc j) at = rest j e at same

    pub lookup_key_none : (es : List (K × V)) (k : K) → lookup_key (eq k) es ≡ None → (j : ℕ) (e : K × V) → slice_get es j ≡ Some e → k ≡ e.0 → ⊥
    lookup_key_none [] k none j e at same = none-some e at
    lookup_key_none (f ∷ es) k none j e at same = elim (cases_Bool (eq k f.0)) [
      | inl here ↦ none-some f.0 (sym none ∙ cond-true (eq k f.0) (Some f.0) (lookup_key (eq k) es) here)
      | inr other ↦
          lookup_none_step f es k e same other (lookup_key_none es k (sym (cond-false (eq k f.0) (Some f.0) (lookup_key (eq k) es) other) ∙ none)) j at
    ]

    pub lookup_none : (es : List (K × V)) (k : K) → lookup (eq k) es ≡ None → (j : ℕ) (e : K × V) → slice_get es j ≡ Some e → k ≡ e.0 → ⊥
    lookup_none [] k none j e at same = none-some e at
    lookup_none (f ∷ es) k none j e at same = elim (cases_Bool (eq k f.0)) [
      | inl here ↦ none-some f.1 (sym none ∙ cond-true (eq k f.0) (Some f.1) (lookup (eq k) es) here)
      | inr other ↦ lookup_none_step f es k e same other (lookup_none es k (sym (cond-false (eq k f.0) (Some f.1) (lookup (eq k) es) other) ∙ none)) j at
    ]
