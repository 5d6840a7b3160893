-- The checks of a step, one for each rule.
use Rattle.std.proofs.Common.{◌≡◌, ◌↔◌, ◌≤◌, ◌∙◌, ℕ, Bool, false, IsTrue, List, [], ◌∷◌, Some, Contains, length, sym, ap, subst, refl, arith, true≢false}
use Rattle.std.specs.Prelude.{slice_get}
use Rattle.names.specs.declared.roles.Role.{Role}
use Rattle.credential_text.specs.declared.credentials.Credential.{Credential}
use Rattle.credential_text.specs.declared.intersections.Part.{Part}
use Rattle.credential_text.specs.declared.exprs.Expr.{Expr}
use Rattle.credential_text.specs.declared.exprs.Expr.TheVariants as expr
use Rattle.proof_trees.specs.declared.steps.Step.{Step}
use Rattle.proof_trees.specs.declared.steps.Rule.{Rule}
use Rattle.proof_trees.specs.declared.steps.Rule.TheVariants as rule
use Rattle.proof_trees.specs.Proof.{Claims, ClaimsEach, IsBy, leaf, credential, link, meet}

-- no is the answer to what never holds
pub never : {P : Type 0} → (P → ⊥) → IsTrue false ↔ P
never none = (λ e. absurd (true≢false (sym e)), λ h. absurd (none h))

-- the step at a place claims what it says
claims_at : (steps : List Step) (place : ℕ) (who : List ℕ) (claim : Expr) (s : Step) → slice_get steps place ≡ Some s → Claims steps place who claim → (s.who ≡ who) × (s.claim ≡ claim)
claims_at steps place who claim s at (t, there, whose, what) =
    let same : s ≡ t = cc in
    (ap (λ (u : Step). u.who) same ∙ whose, ap (λ (u : Step). u.claim) same ∙ what)

-- the credential of this head and body is among them
abbrev pub HasCredential : List Credential → Role → Expr → Type 0
HasCredential C head body = (c : Credential) × Contains C c × (c.head ≡ head) × (c.body ≡ body)

-- what a step that is by each rule has
is_leaf : (C : List Credential) (before : List Step) (who : List ℕ) (claim : Expr) → IsBy C before who claim rule.Leaf → claim ≡ expr.Ent who
is_leaf C before who claim leaf = refl

in_head : (C : List Credential) (before : List Step) (who : List ℕ) (claim : Expr) (i : ℕ) → IsBy C before who claim (rule.Cred i) →
    (c : Credential) × (claim ≡ expr.Rol c.head) × Contains C c × Claims before i who c.body
in_head C before who claim i (credential c among head claims) = (c, ap expr.Rol (sym head), among, claims)

in_link : (C : List Credential) (before : List Step) (who : List ℕ) (claim : Expr) (i j : ℕ) → IsBy C before who claim (rule.Link i j) →
    (base : Role) × (name : List ℕ) × (b : List ℕ) × (claim ≡ expr.Link base name) × Claims before i b (expr.Rol base)
    × Claims before j who (expr.Rol (record { owner = b; name = name }))
in_link C before who claim i j (link {base = base} {n = name} b in_base in_role) = (base, name, b, refl, in_base, in_role)

in_parts : (C : List Credential) (before : List Step) (who : List ℕ) (claim : Expr) (places : List ℕ) → IsBy C before who claim (rule.Parts places) →
    (parts : List Part) × (claim ≡ expr.Meet parts) × ClaimsEach before places who parts
in_parts C before who claim places (meet {p = p} {parts = ps} each) = (p ∷ ps, refl, each)

module _ (C : List Credential) (before : List Step) (who : List ℕ) (claim : Expr) where
  pub leaf_found : (by : Rule) (b : Bool) → by ≡ rule.Leaf → IsTrue b ↔ (claim ≡ expr.Ent who) → IsTrue b ↔ IsBy C before who claim by
  leaf_found by b same answers = subst (λ (r : Rule). IsTrue b ↔ IsBy C before who claim r) (sym same) (
    λ e. subst (λ (x : Expr). IsBy C before who x rule.Leaf) (sym (answers.0 e)) leaf,
    λ is. answers.1 (is_leaf C before who claim is),
  )

  pub credential_of_another : (i : ℕ) (s : Step) → slice_get before i ≡ Some s → (s.who ≡ who → ⊥) → IsBy C before who claim (rule.Cred i) → ⊥
  credential_of_another i s at other is =
      let (c, head, among, claims) = in_head C before who claim i is in
      other (claims_at before i who c.body s at claims).0

  pub credential_found : (i : ℕ) (head : Role) (s : Step) (b : Bool) → claim ≡ expr.Rol head → slice_get before i ≡ Some s → s.who ≡ who →
      IsTrue b ↔ HasCredential C head s.claim → IsTrue b ↔ IsBy C before who claim (rule.Cred i)
  credential_found i head s b is at whose answers = (there, back)
    where
      there : IsTrue b → IsBy C before who claim (rule.Cred i)
      there e =
          let (c, among, heads, bodies) = answers.0 e in
          subst (λ (x : Expr). IsBy C before who x (rule.Cred i)) (sym is) (credential c among heads (s, at, whose, sym bodies))

      back : IsBy C before who claim (rule.Cred i) → IsTrue b
      back by =
          let (c, claimed, among, claims) = in_head C before who claim i by in
          let heads : c.head ≡ head = cc in
          answers.1 (c, among, heads, sym (claims_at before i who c.body s at claims).1)

  pub link_found : (i j : ℕ) (base : Role) (name : List ℕ) (s : Step) (b : Bool) → claim ≡ expr.Link base name → slice_get before i ≡ Some s →
      s.claim ≡ expr.Rol base → IsTrue b ↔ Claims before j who (expr.Rol (record { owner = s.who; name = name })) →
      IsTrue b ↔ IsBy C before who claim (rule.Link i j)
  link_found i j base name s b is at what answers = (
    λ e. subst (λ (x : Expr). IsBy C before who x (rule.Link i j)) (sym is) (link s.who (s, at, refl, what) (answers.0 e)),
    back,
  )
    where
      back : IsBy C before who claim (rule.Link i j) → IsTrue b
      back by =
          let (base', name', member, claimed, in_base, in_role) = in_link C before who claim i j by in
          let names : name' ≡ name = cc in
          let whose : member ≡ s.who = sym (claims_at before i member (expr.Rol base') s at in_base).0 in
          answers.1 (subst (λ (n : List ℕ). Claims before j who (expr.Rol (record { owner = s.who; name = n }))) names
          (subst (λ (m : List ℕ). Claims before j who (expr.Rol (record { owner = m; name = name' }))) whose in_role))

  pub parts_found : (places : List ℕ) (parts : List Part) (b : Bool) → claim ≡ expr.Meet parts → 2 ≤ length parts → IsTrue b ↔ ClaimsEach before places who parts →
      IsTrue b ↔ IsBy C before who claim (rule.Parts places)
  parts_found places [] b is several answers = absurd (omega arith)
  parts_found places (p ∷ ps) b is several answers = (
    λ e. subst (λ (x : Expr). IsBy C before who x (rule.Parts places)) (sym is) (meet (answers.0 e)),
    back,
  )
    where
      back : IsBy C before who claim (rule.Parts places) → IsTrue b
      back by =
          let (parts, claimed, each) = in_parts C before who claim places by in
          let same : parts ≡ p ∷ ps = cc in
          answers.1 (subst (ClaimsEach before places who) same each)
