-- Ports and listeners as they are kept: they stay what they are where nodes are added or a stranger joins.
use Rattle.std.proofs.Common.{ℕ, ◌≡◌, ◌∙◌, ap, refl, sym, subst, inl, inr, List, [], ◌∷◌, ◌++◌, Some, Contains, map, slice_get}
use Rattle.std.proofs.lemmas.List.Elements.{Contains-push_cases}
use Rattle.credential_text.specs.declared.exprs.Expr.{Expr}
use Rattle.credential_text.specs.declared.exprs.Expr.TheVariants.{Ent}
use Rattle.cred_graph.specs.declared.listeners.Port.TheVariants as port
use Rattle.cred_graph.specs.declared.listeners.Listening.{Listening}
use Rattle.cred_graph.specs.declared.listeners.KeptListening.{KeptListening}
use Rattle.cred_graph.specs.declared.listeners.KeptPort.{KeptPort}
use Rattle.cred_graph.specs.declared.listeners.KeptPort.TheVariants as kept
use Rattle.cred_graph.specs.NodeLists.{IsOnce}
use Rattle.cred_graph.specs.Numbers.{IsEntity, entity_at}
use Rattle.cred_graph.specs.Stored.{kept_as, IsKept, Joins, listening_as}
use Rattle.cred_graph.proofs.Growth.{one_place}
use Rattle.cred_graph.proofs.NodeListLemmas.{Contains-at_place, place_of_Contains, slice_get_stays, behind_map, seen_at}
use Rattle.cred_graph.proofs.NumberLemmas.{entity_is, entity_stands, entity_goes_on, entity_stays}

module _ (nodes more : List Expr) (strangers : List Expr) where
  pub kept_with_node : (p : KeptPort) → IsKept nodes strangers p → IsKept (nodes ++ more) strangers p
  kept_with_node (kept.Via k) (who, at, known) = (who, slice_get_stays nodes more k (Ent who) at, known)
  kept_with_node (kept.Stranger j) is = is
  kept_with_node _ is = tt

  pub same_with_node : (p : KeptPort) → IsKept nodes strangers p → kept_as (nodes ++ more) strangers p ≡ kept_as nodes strangers p
  same_with_node (kept.Via k) (who, at, known) = ap port.Via (entity_stays nodes more k (who, at))
  same_with_node _ is = refl

module _ (nodes : List Expr) (strangers : List Expr) (x : List ℕ) (out : Contains nodes (Ent x) → ⊥) where
  kept_with_stranger : (p : KeptPort) → IsKept nodes strangers p → IsKept nodes (strangers ++ Ent x ∷ []) p
  kept_with_stranger (kept.Via k) (who, at, known) = (
    who,
    at,
    λ stands. elim (Contains-push_cases strangers (Ent x) (Ent who) stands) [
      | inl before ↦ known before
      | inr same ↦ out (Contains-at_place nodes k (Ent x) (at ∙ ap Some (sym same)))
    ],
  )
  kept_with_stranger (kept.Stranger j) is = entity_goes_on strangers (Ent x ∷ []) j is
  kept_with_stranger _ is = tt

  same_with_stranger : (p : KeptPort) → IsKept nodes strangers p → kept_as nodes (strangers ++ Ent x ∷ []) p ≡ kept_as nodes strangers p
  same_with_stranger (kept.Stranger j) is = ap port.Via (entity_stays strangers (Ent x ∷ []) j is)
  same_with_stranger _ is = refl

pub kept_joined : (nodes : List Expr) (old new : List Expr) → Joins nodes old new → (p : KeptPort) → IsKept nodes old p → IsKept nodes new p
kept_joined nodes old new (inl same) p is = subst (λ s. IsKept nodes s p) (sym same) is
kept_joined nodes old new (inr (x, out, new_name, joined)) p is = subst (λ s. IsKept nodes s p) (sym joined) (kept_with_stranger nodes old x out p is)

pub same_joined : (nodes : List Expr) (old new : List Expr) → Joins nodes old new → (p : KeptPort) → IsKept nodes old p → kept_as nodes new p ≡ kept_as nodes old p
same_joined nodes old new (inl same) p is = ap (λ s. kept_as nodes s p) same
same_joined nodes old new (inr (x, out, new_name, joined)) p is = ap (λ s. kept_as nodes s p) joined ∙ same_with_stranger nodes old x out p is

module _ (nodes : List Expr) (strangers : List Expr) (one_node : (m n : ℕ) (e : Expr) → slice_get nodes m ≡ Some e → slice_get nodes n ≡ Some e → m ≡ n) (once : IsOnce strangers) where
  via_stranger : (k j : ℕ) → IsKept nodes strangers (kept.Via k) → IsEntity strangers j → entity_at nodes k ≡ entity_at strangers j → ⊥
  via_stranger k j (who, at, known) within same =
      known (Contains-at_place strangers j (Ent who) (entity_stands strangers j within ∙ ap (λ (y : List ℕ). Some (Ent y)) (sym same ∙ entity_is nodes k who at)))

  kept_once : (p q : KeptPort) → IsKept nodes strangers p → IsKept nodes strangers q → kept_as nodes strangers p ≡ kept_as nodes strangers q → p ≡ q
  kept_once kept.Body kept.Body is also same = refl
  kept_once kept.Base kept.Base is also same = refl
  kept_once (kept.Via k) (kept.Via l) (who, at, known) (other, here, unknown) same =
      let named : entity_at nodes k ≡ entity_at nodes l = cc in
      let who_same : other ≡ who = sym (entity_is nodes l other here) ∙ sym named ∙ entity_is nodes k who at in
      ap kept.Via (one_node k l (Ent who) at (here ∙ ap (λ (y : List ℕ). Some (Ent y)) who_same))
  kept_once (kept.Via k) (kept.Stranger l) is also same = let named : entity_at nodes k ≡ entity_at strangers l = cc in absurd (via_stranger k l is also named)
  kept_once (kept.Stranger k) (kept.Via l) is also same = let named : entity_at nodes l ≡ entity_at strangers k = cc in absurd (via_stranger l k also is named)
  kept_once (kept.Stranger k) (kept.Stranger l) is also same =
      let named : entity_at strangers k ≡ entity_at strangers l = cc in
      ap kept.Stranger (once k l (Ent (entity_at strangers k)) (entity_stands strangers k is) (entity_stands strangers l also ∙ ap (λ (y : List ℕ). Some (Ent y)) (sym named)))
  kept_once (kept.Part k) (kept.Part l) is also same = let numbers : k ≡ l = cc in ap kept.Part numbers
  kept_once _ _ is also same = cc

  -- two listeners that stand for the same are the same
  listening_once : (a b : KeptListening) → IsKept nodes strangers a.port → IsKept nodes strangers b.port → listening_as nodes strangers a ≡ listening_as nodes strangers b → a ≡ b
  listening_once a b is also same =
      let asker : a.asker ≡ b.asker = ap (λ (l : Listening). l.asker) same in
      let port : a.port ≡ b.port = kept_once a.port b.port is also (ap (λ (l : Listening). l.port) same) in
      λ i. record { asker = asker i; port = port i }

  -- a listener is in a list where what it stands for is in what the list stands for
  pub listens_kept : (list : List KeptListening) → ((l : KeptListening) → Contains list l → IsKept nodes strangers l.port) → (l : KeptListening) → IsKept nodes strangers l.port →
      Contains (map (listening_as nodes strangers) list) (listening_as nodes strangers l) → Contains list l
  listens_kept list are l is stands =
      let at = behind_map (listening_as nodes strangers) list (listening_as nodes strangers l) stands in
      let same : at.1 ≡ l = listening_once at.1 l (are at.1 (Contains-at_place list at.0 at.1 at.2)) is at.3 in
      Contains-at_place list at.0 l (at.2 ∙ ap Some same)

pub listens_as : (nodes : List Expr) (strangers : List Expr) (list : List KeptListening) (l : KeptListening) → Contains list l →
    Contains (map (listening_as nodes strangers) list) (listening_as nodes strangers l)
listens_as nodes strangers list l stands =
    let at = place_of_Contains list l stands in
    Contains-at_place (map (listening_as nodes strangers) list) at.0 (listening_as nodes strangers l) (seen_at (listening_as nodes strangers) list at.0 l at.1)

pub once_joined : (nodes : List Expr) (old new : List Expr) → Joins nodes old new → IsOnce old → IsOnce new
once_joined nodes old new (inl same) once = subst IsOnce (sym same) once
once_joined nodes old new (inr (x, out, new_name, joined)) once = subst IsOnce (sym joined) (one_place old (Ent x) new_name once)

-- no port stands for an entity that has no node and is no stranger
pub not_kept : (nodes : List Expr) (strangers : List Expr) (who : List ℕ) → (Contains nodes (Ent who) → ⊥) → (Contains strangers (Ent who) → ⊥) →
    (p : KeptPort) → IsKept nodes strangers p → kept_as nodes strangers p ≡ port.Via who → ⊥
not_kept nodes strangers who out unknown (kept.Via k) (other, at, known) same =
    let named : entity_at nodes k ≡ who = cc in
    out (Contains-at_place nodes k (Ent who) (at ∙ ap (λ (y : List ℕ). Some (Ent y)) (sym (entity_is nodes k other at) ∙ named)))
not_kept nodes strangers who out unknown (kept.Stranger j) is same =
    let named : entity_at strangers j ≡ who = cc in
    unknown (Contains-at_place strangers j (Ent who) (entity_stands strangers j is ∙ ap (λ (y : List ℕ). Some (Ent y)) named))
not_kept nodes strangers who out unknown _ is same = cc
