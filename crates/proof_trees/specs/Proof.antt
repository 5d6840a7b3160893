-- Proofs of membership: lists of steps, each by one of RT0's rules from earlier steps.
use Rattle.std.specs.Prelude.{ℕ, ◌+◌, ◌≡◌, List, ◌∷◌, Some, Contains, length, take, slice_get}
use Rattle.std.specs.List.{AllZip}
use Rattle.names.specs.declared.roles.Role.{Role}
use Rattle.credential_text.specs.declared.credentials.Credential.{Credential}
use Rattle.credential_text.specs.declared.intersections.Part.{Part}
use Rattle.credential_text.specs.declared.exprs.Expr.{Expr}
use Rattle.credential_text.specs.declared.exprs.Expr.TheVariants.{Ent, Rol, Link, Meet}
use Rattle.credential_text.specs.Expr.{part_expr}
use Rattle.proof_trees.specs.declared.steps.Step.{Step}
use Rattle.proof_trees.specs.declared.steps.Rule.{Rule}
use Rattle.proof_trees.specs.declared.steps.Rule.TheVariants as rule

-- the step at the place claims the entity in the expression
abbrev pub Claims : List Step → ℕ → List ℕ → Expr → Type 0
Claims steps place who claim = (s : Step) × (slice_get steps place ≡ Some s) × (s.who ≡ who) × (s.claim ≡ claim)

-- the steps at these places claim the entity in these parts, one for each
abbrev pub ClaimsEach : List Step → List ℕ → List ℕ → List Part → Type 0
ClaimsEach steps places who parts = AllZip (λ place part. Claims steps place who (part_expr part)) places parts

-- by the rule the entity d is in the expression, over the credentials C, from what the steps before claim
pub data IsBy (C : List Credential) (before : List Step) : List ℕ → Expr → Rule → Type 0 where
  -- an entity is in itself
  leaf : {d : List ℕ} → IsBy C before d (Ent d) rule.Leaf
  -- who is in the body is in the head
  credential : {d : List ℕ} {r : Role} {i : ℕ} (c : Credential) → Contains C c → c.head ≡ r → Claims before i d c.body →
      IsBy C before d (Rol r) (rule.Cred i)
  -- who is in B.n for some B in the base is in the linked role
  link : {d : List ℕ} {base : Role} {n : List ℕ} {i j : ℕ} (b : List ℕ) → Claims before i b (Rol base) →
      Claims before j d (Rol (record { owner = b; name = n })) → IsBy C before d (Link base n) (rule.Link i j)
  -- who is in every part, of one or more, is in the intersection
  meet : {d : List ℕ} {p : Part} {parts : List Part} {places : List ℕ} → ClaimsEach before places d (p ∷ parts) →
      IsBy C before d (Meet (p ∷ parts)) (rule.Parts places)

-- each step is by its rule from the steps before it
abbrev pub AreByRules : List Credential → List Step → Type 0
AreByRules credentials steps =
    (i : ℕ) (s : Step) → slice_get steps i ≡ Some s → IsBy credentials (take i steps) s.who s.claim s.rule

-- the last step claims the entity in the expression
abbrev pub Concludes : List Step → List ℕ → Expr → Type 0
Concludes steps who claim = (last : ℕ) × (length steps ≡ last + 1) × Claims steps last who claim

-- a proof that the entity is a member of the role
pub record IsProof (credentials : List Credential) (role : Role) (who : List ℕ) (steps : List Step) : Type 0 where
  pub by_rules : AreByRules credentials steps
  pub concludes : Concludes steps who (Rol role)
