-- What a search that is still under way owes, and what it has found when it owes nothing more.
use Rattle.std.specs.Prelude.{ℕ, List, [], ◌∷◌, ◌≡◌, ◌⊎◌, ◌↔◌, map, Contains}
use Rattle.std.specs.List.{AllByRecursion}
use Rattle.names.specs.declared.roles.Role.{Role}
use Rattle.credential_text.specs.declared.credentials.Credential.{Credential}
use Rattle.credential_text.specs.declared.intersections.Part.{Part}
use Rattle.credential_text.specs.declared.exprs.Expr.{Expr}
use Rattle.credential_text.specs.declared.exprs.Expr.TheVariants.{Ent, Rol, Link, Meet}
use Rattle.credential_text.specs.Expr.{part_expr}
use Rattle.rt0_rules.specs.Derivation.{Derives}
use Rattle.rt0_rules.specs.Asks.{Why, Asks, Demanded}

-- one rule gives the entity in the expression, from premises that are known: these expressions have them
pub data Follows (C : List Credential) (known : List ℕ → Expr → Type 0) : List ℕ → Expr → List Expr → Type 0 where
  by_leaf : (d : List ℕ) → Follows C known d (Ent d) []
  by_credential : {d : List ℕ} {r : Role} (c : Credential) → Contains C c → c.head ≡ r → known d c.body →
      Follows C known d (Rol r) (c.body ∷ [])
  by_link : {d : List ℕ} {r : Role} {n : List ℕ} (b : List ℕ) → known b (Rol r) → known d (Rol (record { owner = b; name = n })) →
      Follows C known d (Link r n) (Rol r ∷ Rol (record { owner = b; name = n }) ∷ [])
  by_meet : {d : List ℕ} {p : Part} {ps : List Part} → AllByRecursion (λ q. known d (part_expr q)) (p ∷ ps) →
      Follows C known d (Meet (p ∷ ps)) (map part_expr (p ∷ ps))

-- The search for the role's members has asked and told what the rules call for, or a letter that is under way will.
-- `listens e why f`: e hears of the members of f for this reason. `known d e`: it was found that d is in e.
-- `first`: the first letter, to the role, is under way. `pending e f`: a letter from e to f or back is under way.
pub record RulesAreOwed (C : List Credential) (role : Role) (listens : Expr → Why → Expr → Type 0) (is_open : Expr → Type 0)
    (known : List ℕ → Expr → Type 0) (first : Type 0) (pending : Expr → Expr → Type 0) : Type 0 where
  -- what was found is so
  pub sound : (d : List ℕ) (e : Expr) → known d e → Derives C d e
  -- what is listened to is open
  pub opened : (e f : Expr) (why : Why) → listens e why f → is_open f
  -- the role is open, or the first letter is under way
  pub root : is_open (Rol role) ⊎ first
  -- what an open expression asks was heard, or the ask is under way, or the member on whose behalf a linked role asks
  pub heard : (e f : Expr) (why : Why) → is_open e → Asks C known e why f →
      listens e why f ⊎ (pending e f ⊎ ((r : Role) × (n : List ℕ) × (e ≡ Link r n) × pending e (Rol r)))
  -- what one rule gives for an open expression was found, or one of its premises is under way
  pub applied : (d : List ℕ) (e : Expr) (premises : List Expr) → is_open e → Follows C known d e premises →
      known d e ⊎ ((f : Expr) × Contains premises f × pending e f)

-- the known members of each demanded expression are just those that the rules derive
abbrev pub IsExact : List Credential → Role → (List ℕ → Expr → Type 0) → Type 0
IsExact C role known = (d : List ℕ) (e : Expr) → Demanded C role e → known d e ↔ Derives C d e
