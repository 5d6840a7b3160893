-- Where a key stands among entries: what an index says of it.
use Rattle.std.proofs.Common.{◌≡◌, ◌∙◌, ◌<◌, ℕ, zero, suc, Bool, true, false, List, [], ◌∷◌, length, get_or, position, slice_get, Option, Some, None, is_some, unwrap_or, IsSomeAnd, MatchOption, option_map, ap, refl, sym, subst, true≢false, arith}
use Rattle.std.specs.Map.{keys_of, values_of, lookup}
use Rattle.std.proofs.lemmas.List.Quantifiers.{position-Some}
use Rattle.std.proofs.lemmas.Option.{none-some, slice_get_past, slice_get-map}

-- the key that passes the test stands at this place of the entries; or none passes, and none stands there
abbrev pub IsPlaceOf : {K V : Type 0} → (K → Bool) → List (K × V) → ℕ → Type 0
IsPlaceOf test es at = MatchOption (slice_get es at) (lookup test es ≡ None) (λ e. test e.0 ≡ true)

module _ {K V : Type 0} (test : K → Bool) where
  passes_at : (es : List (K × V)) (i : ℕ) (d : K) → i < length (keys_of es) → test (get_or (keys_of es) i d) ≡ true → IsSomeAnd (slice_get es i) (λ e. test e.0 ≡ true)
  passes_at [] i d within passes = absurd (omega (arith, within))
  passes_at (e ∷ es) zero d within passes = passes
  passes_at (e ∷ es) (suc i) d within passes = passes_at es i d (omega (arith, within)) passes

  -- one that passes is there
  pub place_passed : (es : List (K × V)) (i : ℕ) → IsSomeAnd (slice_get es i) (λ e. test e.0 ≡ true) → IsPlaceOf test es i
  place_passed es i passed =
      elim (slice_get es i) as (λ o. IsSomeAnd o (λ e. test e.0 ≡ true) → MatchOption o (lookup test es ≡ None) (λ e. test e.0 ≡ true)) [
        | None ↦ λ no. absurd no
        | Some e ↦ λ yes. yes
      ] passed

  -- a place that the index of a map tells, or the one behind all
  pub place_told : (es : List (K × V)) (place : Option ℕ) → place ≡ position test (keys_of es) → is_some place ≡ is_some (lookup test es) → IsPlaceOf test es (unwrap_or place (length es))
  place_told es None is found =
      let none : lookup test es ≡ None =
      elim (lookup test es) as (λ o. false ≡ is_some o → o ≡ None) [ None ↦ λ _. refl | Some v ↦ λ e. absurd (true≢false (sym e)) ] found in
      subst (λ (o : Option (K × V)). MatchOption o (lookup test es ≡ None) (λ e. test e.0 ≡ true)) (sym (slice_get_past es (length es) (omega arith))) none
  place_told [] (Some i) is found = cc
  place_told (e ∷ es) (Some i) is found =
      let there = position-Some test (keys_of (e ∷ es)) i e.0 (sym is) in
      place_passed (e ∷ es) i (passes_at (e ∷ es) i e.0 there.0 there.1)

  -- where nothing stands at its place no key passes
  pub none_passes : (es : List (K × V)) (at : ℕ) → IsPlaceOf test es at → slice_get (values_of es) at ≡ None → lookup test es ≡ None
  none_passes es at place none = by (slice_get es at) refl place
    where
      by : (o : Option (K × V)) → slice_get es at ≡ o → MatchOption o (lookup test es ≡ None) (λ e. test e.0 ≡ true) → lookup test es ≡ None
      by None is absent = absent
      by (Some e) is passes = absurd (none-some _ (sym none ∙ slice_get-map (λ (x : K × V). x.1) es at ∙ ap (option_map (λ (x : K × V). x.1)) is))
