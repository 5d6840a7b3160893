-- What sets of keys hear, whose equality is exact.
use Rattle.std.proofs.Common.{◌≡◌, Bool, true, false, List, [], ◌∷◌, ◌++◌, ◌||◌, inl, inr, Contains, refl, sym, ap, subst, ◌∙◌, not, if◌then◌else◌, true≢false, append-nil, append_assoc, arith, Option, None, Some, Box}
use Rattle.std.specs.Cmp.{IsEquivalence}
use Rattle.std.specs.List.{list_any}
use Rattle.std.proofs.lemmas.List.Elements.{Contains-append_left, Contains-append_right, Contains-append_cases, Contains-push}
use Rattle.std.proofs.lemmas.Map.Views.{list_any-from_Contains, Contains-from_any}
use Rattle.indexmap.specs.IndexSet.{insert_key}
use Rattle.monitors.specs.LinkMonitor.{AddsKey}
use Rattle.std.specs.declared.alloc.Global.{Global}
use Rattle.monitors.specs.Made.{made_or, Begins}

module _ {K : Type 0} (eq : K → K → Bool) (laws : IsEquivalence eq) (exact : (x y : K) → eq x y ≡ true → x ≡ y) where
  -- a key that no other is the same as isn't among them
  pub is_new : (keys : List K) (key : K) → list_any (eq key) keys ≡ false → Contains keys key → ⊥
  is_new keys key e among = true≢false (sym (list_any-from_Contains laws key keys among) ∙ e)

  is_old : (keys : List K) (key : K) → list_any (eq key) keys ≡ true → Contains keys key
  is_old keys key e = Contains-from_any exact key keys e

  -- the same where the others are asked whether they are the same as the key
  mirrored : (keys : List K) (key : K) → list_any (λ other. eq other key) keys ≡ list_any (eq key) keys
  mirrored [] key = refl
  mirrored (k ∷ keys) key = λ i. laws.symm k key i || mirrored keys key i

  -- a key that is among the first ones
  pub near_has : (near far : List K) (key : K) → list_any (λ other. eq other key) near ≡ true → AddsKey (near ++ far) (near ++ far) key false
  near_has near far key e = (Contains-append_left near far key (is_old near key (sym (mirrored near key) ∙ e)), refl)

  -- a key that neither the first ones nor the others have
  pub near_lacks : (near far : List K) (key : K) → list_any (λ other. eq other key) near ≡ false → (Contains far key → ⊥) → Contains (near ++ far) key → ⊥
  near_lacks near far key e absent there =
      elim (Contains-append_cases near far key there) [
        | inl first ↦ is_new near key (sym (mirrored near key) ∙ e) first
        | inr beyond ↦ absent beyond
      ]

  -- a key is added to the first ones, where there are no others
  pub near_adds : (near grown far : List K) (key : K) → list_any (λ other. eq other key) near ≡ false → grown ≡ near ++ key ∷ [] → far ≡ [] → AddsKey (near ++ far) (grown ++ far) key true
  near_adds near grown far key e is none = (
    near_lacks near far key e (subst (λ keys. Contains keys key → ⊥) (sym none) (λ there. absurd (omega (arith, there.1)))),
    (λ i. is i ++ none i) ∙ append-nil (near ++ key ∷ []) ∙ ap (λ keys. keys ++ key ∷ []) (sym (append-nil near) ∙ ap (λ keys. near ++ keys) (sym none)),
  )

  -- a key that the first ones lack is added to the others
  pub far_adds : (near far after : List K) (key : K) (new : Bool) → list_any (λ other. eq other key) near ≡ false → new ≡ not (list_any (eq key) far) → after ≡ insert_key eq far key → AddsKey (near ++ far) (near ++ after) key new
  far_adds near far after key new lacks answer inserted = by (list_any (eq key) far) refl
    where
      by : (known : Bool) → list_any (eq key) far ≡ known → AddsKey (near ++ far) (near ++ after) key new
      by true e = subst (AddsKey (near ++ far) (near ++ after) key) (sym (answer ∙ ap not e)) (
        Contains-append_right near far key (is_old far key e),
        ap (λ keys. near ++ keys) (inserted ∙ ap (λ known. if known then far else far ++ key ∷ []) e),
      )
      by false e = subst (AddsKey (near ++ far) (near ++ after) key) (sym (answer ∙ ap not e)) (
        near_lacks near far key lacks (is_new far key e),
        ap (λ keys. near ++ keys) (inserted ∙ ap (λ known. if known then far else far ++ key ∷ []) e) ∙ sym (append_assoc near far (key ∷ [])),
      )

-- the key is one of them now
pub now_told : {K : Type 0} (keys after : List K) (key : K) (new : Bool) → AddsKey keys after key new → Contains after key
now_told keys after key true (absent, is) = subst (λ keys. Contains keys key) (sym is) (Contains-push keys key)
now_told keys after key false (there, is) = subst (λ keys. Contains keys key) (sym is) there

-- what is made of nothing is seen as nothing

pub seen_still : {T S : Type 0} (nothing : S) (seen : T → S) (IsEmpty : T → Type 0) → ((t : T) → IsEmpty t → seen t ≡ nothing) → (old new : Option (Box T Global)) → Begins IsEmpty old new → made_or nothing seen new ≡ made_or nothing seen old
seen_still nothing seen IsEmpty is (Some old) new same = ap (made_or nothing seen) same
seen_still nothing seen IsEmpty is None None begins = refl
seen_still nothing seen IsEmpty is None (Some made) empty = is made.value empty
