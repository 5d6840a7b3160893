-- Each fact that was found is a membership.
use Rattle.std.proofs.Common.{ℕ, true, false, List, [], ◌∷◌, ◌++◌, ◌≡◌, inl, inr, sym, subst}
use Rattle.std.specs.List.{list_all}
use Rattle.names.specs.declared.roles.Role.{Role}
use Rattle.std.proofs.lemmas.Bool.{and_parts, or_cases}
use Rattle.std.proofs.lemmas.List.Folds.{list_any-append}
use Rattle.credential_text.specs.declared.credentials.Credential.{Credential}
use Rattle.credential_text.specs.declared.exprs.Expr.{Expr}
use Rattle.credential_text.specs.declared.exprs.Expr.TheVariants.{Ent, Rol, Link, Meet}
use Rattle.rt0_rules.specs.declared.facts.Fact.{Fact}
use Rattle.credential_text.specs.declared.intersections.Part.{Part}
use Rattle.credential_text.specs.declared.intersections.Part.TheVariants as part
use Rattle.credential_text.specs.Expr.{part_expr}
use Rattle.rt0_rules.specs.Derivation.{Derives, DerivesEach, leaf, credential, link, meet, last, more}
use Rattle.rt0_rules.specs.Membership.{IsMember}
use Rattle.rt0_rules.specs.Facts.{says, knows, holds_link, holds_part, holds, IsOwed, IsSound}
use Rattle.names.proofs.SameNames.{same_from_is_same}
use Rattle.rt0_rules.proofs.SameTexts.{said}
use Rattle.rt0_rules.proofs.Linking.{LinksBy, links_by}
use Rattle.rt0_rules.proofs.Unknown.{owed_parts}

-- what the rule for linked roles gives from sound facts is derived
sound_link : (C : List Credential) (facts : List Fact) → IsSound C facts → (base : Role) (n d : List ℕ) → holds_link facts d base n ≡ true → Derives C d (Link base n)
sound_link C facts sound base n d held =
    let by : LinksBy facts base n d = links_by facts base n d held in
    link by.who (sound base by.who by.in_base) (sound (record { owner = by.who; name = n }) d by.in_role)

sound_in_part : (C : List Credential) (facts : List Fact) → IsSound C facts → (p : Part) (d : List ℕ) → holds_part facts d p ≡ true → Derives C d (part_expr p)
sound_in_part C facts sound (part.Ent e) d same = subst (λ (w : List ℕ). Derives C d (Ent w)) (sym (same_from_is_same e d same)) leaf
sound_in_part C facts sound (part.Rol r) d known = sound r d known
sound_in_part C facts sound (part.Link base n) d held = sound_link C facts sound base n d held

sound_in_each : (C : List Credential) (facts : List Fact) → IsSound C facts → (p : Part) (ps : List Part) (d : List ℕ) →
    list_all (holds_part facts d) (p ∷ ps) ≡ true → DerivesEach C d (p ∷ ps)
sound_in_each C facts sound p [] d held =
    let both : (holds_part facts d p ≡ true) × (true ≡ true) = and_parts _ _ held in
    last (sound_in_part C facts sound p d both.0)
sound_in_each C facts sound p (q ∷ ps) d held =
    let both : (holds_part facts d p ≡ true) × (list_all (holds_part facts d) (q ∷ ps) ≡ true) = and_parts _ _ held in
    more (sound_in_part C facts sound p d both.0) (sound_in_each C facts sound q ps d both.1)

-- what one rule gives from sound facts is derived
pub sound_in : (C : List Credential) (facts : List Fact) → IsSound C facts → (e : Expr) (d : List ℕ) → holds facts d e ≡ true → Derives C d e
sound_in C facts sound (Ent e) d same = sound_in_part C facts sound (part.Ent e) d same
sound_in C facts sound (Rol r) d known = sound r d known
sound_in C facts sound (Link base n) d held = sound_link C facts sound base n d held
sound_in C facts sound (Meet []) d held = cc
sound_in C facts sound (Meet (p ∷ ps)) d held = meet (sound_in_each C facts sound p ps d held)

-- an owed membership is derived
pub owed_derived : (C : List Credential) (entities : List (List ℕ)) (facts : List Fact) (fact : Fact) → IsSound C facts → IsOwed C entities facts fact → IsMember C fact.who fact.role
owed_derived C entities facts fact sound owed =
    credential owed.credential owed.among (sym owed.head)
    (sound_in C facts sound owed.credential.body fact.who (owed_parts facts owed.credential fact.who owed.owed).0)

-- one fact more
pub sound_more : (C : List Credential) (entities : List (List ℕ)) (facts : List Fact) (fact : Fact) → IsSound C facts → IsOwed C entities facts fact → IsSound C (facts ++ fact ∷ [])
sound_more C entities facts fact sound owed role d known =
    elim (or_cases (knows facts role d) (knows (fact ∷ []) role d) (rw (list_any-append (says role d) facts (fact ∷ [])) at known)) [
      | inl before ↦ sound role d before
      | inr now ↦ elim (or_cases (says role d fact) false now) [
        | inl this ↦
            let is : (fact.role ≡ role) × (fact.who ≡ d) = said role d fact this in
            subst (λ r. IsMember C d r) is.0 (subst (λ w. IsMember C w fact.role) is.1 (owed_derived C entities facts fact sound owed))
        | inr none ↦ cc
      ]
    ]

-- the same at the values that a round has
pub sound_kept : (C : List Credential) (entities : List (List ℕ)) (facts seen grown : List Fact) (fact : Fact) →
    seen ≡ facts → grown ≡ facts ++ fact ∷ [] → IsSound C facts → IsOwed C entities seen fact → IsSound C grown
sound_kept C entities facts seen grown fact same_facts pushed sound owed =
    let here : IsOwed C entities facts fact = subst (λ (fs : List Fact). IsOwed C entities fs fact) same_facts owed in
    subst (λ (fs : List Fact). IsSound C fs) (sym pushed) (sound_more C entities facts fact sound here)
