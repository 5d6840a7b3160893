-- What a proof proves is derivable.
use Rattle.std.proofs.Common.{◌≡◌, ℕ, zero, suc, ◌+◌, ◌<◌, List, [], ◌∷◌, Some, take, subst, arith}
use Rattle.std.specs.Prelude.{slice_get}
use Rattle.credential_text.specs.declared.credentials.Credential.{Credential}
use Rattle.credential_text.specs.declared.intersections.Part.{Part}
use Rattle.credential_text.specs.declared.exprs.Expr.{Expr}
use Rattle.credential_text.specs.declared.exprs.Expr.TheVariants as expr
use Rattle.credential_text.specs.Expr.{part_expr}
use Rattle.rt0_rules.specs.Derivation.{Derives, DerivesEach}
use Rattle.rt0_rules.specs.Derivation as derives
use Rattle.proof_trees.specs.declared.steps.Step.{Step}
use Rattle.proof_trees.specs.declared.steps.Rule.{Rule}
use Rattle.proof_trees.specs.Proof.{Claims, ClaimsEach, IsBy, leaf, credential, link, meet, AreByRules, Concludes}
use Rattle.proof_trees.specs.Laws.{ProofsAreSound}
use Rattle.proof_trees.proofs.Taken.{from_front}

-- every claim before the step is derivable
abbrev AreDerived : List Credential → List Step → ℕ → Type 0
AreDerived credentials steps i = (j : ℕ) (t : Step) → j < i → slice_get steps j ≡ Some t → Derives credentials t.who t.claim

module _ (credentials : List Credential) (steps : List Step) (i : ℕ) (earlier : AreDerived credentials steps i) where
  claimed : (place : ℕ) (who : List ℕ) (claim : Expr) → Claims (take i steps) place who claim → Derives credentials who claim
  claimed place who claim (t, at, whose, what) =
      let there = from_front steps i place t at in
      subst (λ (e : Expr). Derives credentials who e) what (subst (λ (d : List ℕ). Derives credentials d t.claim) whose (earlier place t there.0 there.1))

  claimed_each : (places : List ℕ) (who : List ℕ) (p : Part) (ps : List Part) → ClaimsEach (take i steps) places who (p ∷ ps) → DerivesEach credentials who (p ∷ ps)
  claimed_each [] who p ps each = absurd each
  claimed_each (k ∷ ks) who p [] each = derives.last (claimed k who (part_expr p) each.0)
  claimed_each (k ∷ ks) who p (q ∷ ps) each = derives.more (claimed k who (part_expr p) each.0) (claimed_each ks who q ps each.1)

  -- a step by its rule from derivable steps is derivable
  derived_by : (who : List ℕ) (claim : Expr) (r : Rule) → IsBy credentials (take i steps) who claim r → Derives credentials who claim
  derived_by who claim r leaf = derives.leaf
  derived_by who claim r (credential {i = place} c among is claims) = derives.credential c among is (claimed place who c.body claims)
  derived_by who claim r (link {base = base} {n = name} {i = base_place} {j = role_place} b in_base in_role) =
      derives.link b (claimed base_place b (expr.Rol base) in_base) (claimed role_place who (expr.Rol (record { owner = b; name = name })) in_role)
  derived_by who claim r (meet {p = p} {parts = ps} {places = places} each) = derives.meet (claimed_each places who p ps each)

-- every claim below the bound is derivable
derived_below : (credentials : List Credential) (steps : List Step) → AreByRules credentials steps → (bound : ℕ) → AreDerived credentials steps bound
derived_below credentials steps by_rules zero j t below at = absurd (omega arith)
derived_below credentials steps by_rules (suc bound) j t below at =
    derived_by credentials steps j
    (λ k u before there. derived_below credentials steps by_rules bound k u (omega arith) there)
    t.who t.claim t.rule (by_rules j t at)

concluded : (credentials : List Credential) (steps : List Step) → AreByRules credentials steps → (who : List ℕ) (claim : Expr) → Concludes steps who claim → Derives credentials who claim
concluded credentials steps by_rules who claim (place, long, (s, at, whose, what)) =
    subst (λ (e : Expr). Derives credentials who e) what
    (subst (λ (d : List ℕ). Derives credentials d s.claim) whose (derived_below credentials steps by_rules (place + 1) place s (omega arith) at))

pub sound : ProofsAreSound
sound credentials role who steps proof = concluded credentials steps proof.by_rules who (expr.Rol role) proof.concludes
