-- Where nothing is under way any more, a search has asked all there is to ask and found just what the rules derive.
use Rattle.std.proofs.Common.{ℕ, List, [], ◌∷◌, ◌≡◌, inl, inr, suc, refl, map, Some}
use Rattle.std.specs.List.{slice_get, AllByRecursion}
use Rattle.names.specs.declared.roles.Role.{Role}
use Rattle.credential_text.specs.declared.credentials.Credential.{Credential}
use Rattle.credential_text.specs.declared.intersections.Part.{Part}
use Rattle.credential_text.specs.declared.exprs.Expr.{Expr}
use Rattle.credential_text.specs.declared.exprs.Expr.TheVariants.{Ent, Rol, Link, Meet}
use Rattle.credential_text.specs.Expr.{part_expr}
use Rattle.rt0_rules.specs.Derivation.{Derives, DerivesEach, leaf, credential, link, meet, last, more}
use Rattle.rt0_rules.specs.Asks.{Why, for_body, for_base, for_via, for_part, Asks, asks_body, asks_base, asks_via, asks_part, Demanded, asked_role, asked_by}
use Rattle.rt0_rules.specs.FixedPoint.{Follows, by_leaf, by_credential, by_link, by_meet, RulesAreOwed, IsExact}

-- what is asked is asked too where more members of bases are known
pub asks_kept : {C : List Credential} {some more : List ℕ → Expr → Type 0} → ((b : List ℕ) (r : Role) → some b (Rol r) → more b (Rol r)) →
    (e : Expr) (why : Why) (f : Expr) → Asks C some e why f → Asks C more e why f
asks_kept kept e why f (asks_body c among head) = asks_body c among head
asks_kept kept e why f (asks_base r n) = asks_base r n
asks_kept kept e why f (asks_via {r = r} n b member) = asks_via n b (kept b r member)
asks_kept kept e why f (asks_part i p at) = asks_part i p at

module _ {C : List Credential} {role : Role} {listens : Expr → Why → Expr → Type 0} {is_open : Expr → Type 0}
    {known : List ℕ → Expr → Type 0} {first : Type 0} {pending : Expr → Expr → Type 0}
    (owed : RulesAreOwed C role listens is_open known first pending) (started : first → ⊥) (settled : (e f : Expr) → pending e f → ⊥) where
  heard_by : (e : Expr) (why : Why) (f : Expr) → is_open e → Asks C known e why f → listens e why f
  heard_by e why f opened asks =
      elim (owed.heard e f why opened asks) [
        | inl heard ↦ heard
        | inr late ↦ elim late [ inl between ↦ absurd (settled e f between) | inr base ↦ absurd (settled e (Rol base.0) base.3) ]
      ]

  opens : (e : Expr) (why : Why) (f : Expr) → is_open e → Asks C known e why f → is_open f
  opens e why f opened asks = owed.opened e f why (heard_by e why f opened asks)

  found_by : (d : List ℕ) (e : Expr) (premises : List Expr) → is_open e → Follows C known d e premises → known d e
  found_by d e premises opened follows =
      elim (owed.applied d e premises opened follows) [
        | inl found ↦ found
        | inr late ↦ absurd (settled e late.0 late.2)
      ]

  mutual
    -- what is derived in an open expression was found
    found : (d : List ℕ) (e : Expr) → is_open e → Derives C d e → known d e
    found d (Ent w) opened leaf = found_by d (Ent d) [] opened (by_leaf d)
    found d (Rol r) opened (credential c among head der) =
        let body : known d c.body = found d c.body (opens (Rol r) for_body c.body opened (asks_body c among head)) der in
        found_by d (Rol r) (c.body ∷ []) opened (by_credential c among head body)
    found d (Link base n) opened (link b in_base in_role) =
        let of_base : known b (Rol base) = found b (Rol base) (opens (Link base n) for_base (Rol base) opened (asks_base base n)) in_base in
        let given : Expr = Rol (record { owner = b; name = n }) in
        let of_role : known d given = found d given (opens (Link base n) (for_via b) given opened (asks_via n b of_base)) in_role in
        found_by d (Link base n) (Rol base ∷ given ∷ []) opened (by_link b of_base of_role)
    found d (Meet []) opened (meet ders) = elim ders [ ]
    found d (Meet (p ∷ ps)) opened (meet ders) =
        found_by d (Meet (p ∷ ps)) (map part_expr (p ∷ ps)) opened
        (by_meet (found_in_each d (p ∷ ps) (λ i q at. opens (Meet (p ∷ ps)) (for_part i) (part_expr q) opened (asks_part i q at)) ders))

    found_in_each : (d : List ℕ) (ps : List Part) → ((i : ℕ) (q : Part) → slice_get ps i ≡ Some q → is_open (part_expr q)) →
        DerivesEach C d ps → AllByRecursion (λ q. known d (part_expr q)) ps
    found_in_each d (p ∷ []) opened (last der) = (found d (part_expr p) (opened 0 p refl) der, tt)
    found_in_each d (p ∷ q ∷ ps) opened (more der ders) =
        (found d (part_expr p) (opened 0 p refl) der, found_in_each d (q ∷ ps) (λ i r at. opened (suc i) r at) ders)

  -- what an open expression has to ask was asked
  asks_known : (e : Expr) (why : Why) (f : Expr) → is_open e → Asks C (Derives C) e why f → Asks C known e why f
  asks_known e why f opened (asks_body c among head) = asks_body c among head
  asks_known e why f opened (asks_base r n) = asks_base r n
  asks_known e why f opened (asks_via {r = r} n b member) =
      asks_via n b (found b (Rol r) (opens (Link r n) for_base (Rol r) opened (asks_base r n)) member)
  asks_known e why f opened (asks_part i p at) = asks_part i p at

  demanded_open : (e : Expr) → Demanded C role e → is_open e
  demanded_open e asked_role = elim owed.root [ inl opened ↦ opened | inr first ↦ absurd (started first) ]
  demanded_open f (asked_by {e = e} why demanded asks) =
      let opened : is_open e = demanded_open e demanded in
      opens e why f opened (asks_known e why f opened asks)

  -- each ask of a demanded expression was heard
  pub all_heard : (e : Expr) (why : Why) (f : Expr) → Demanded C role e → Asks C (Derives C) e why f → listens e why f
  all_heard e why f demanded asks =
      let opened : is_open e = demanded_open e demanded in
      heard_by e why f opened (asks_known e why f opened asks)

  -- the known members of each demanded expression are just those that the rules derive
  pub exact : IsExact C role known
  exact d e demanded = (λ found. owed.sound d e found, λ derived. found d e (demanded_open e demanded) derived)
