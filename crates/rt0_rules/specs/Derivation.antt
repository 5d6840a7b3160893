-- Which entities are in an expression, by the rules of RT0 (Li, Winsborough and Mitchell, 2003).
use Rattle.std.specs.Prelude.{ℕ, List, [], ◌∷◌, ◌≡◌, Contains}
use Rattle.names.specs.declared.roles.Role.{Role}
use Rattle.credential_text.specs.declared.credentials.Credential.{Credential}
use Rattle.credential_text.specs.declared.intersections.Part.{Part}
use Rattle.credential_text.specs.declared.exprs.Expr.{Expr}
use Rattle.credential_text.specs.declared.exprs.Expr.TheVariants.{Ent, Rol, Link, Meet}
use Rattle.credential_text.specs.Expr.{part_expr}

mutual
  -- a finite derivation that the entity d is in the expression, over the credentials C
  pub data Derives (C : List Credential) : List ℕ → Expr → Type 0 where
    -- an entity is in itself
    leaf : {d : List ℕ} → Derives C d (Ent d)
    -- who is in the body is in the head
    credential : {d : List ℕ} {r : Role} (c : Credential) → Contains C c → c.head ≡ r → Derives C d c.body → Derives C d (Rol r)
    -- who is in B.n for some B in the base is in the linked role
    link : {d : List ℕ} {base : Role} {n : List ℕ} (b : List ℕ) → Derives C b (Rol base) →
        Derives C d (Rol (record { owner = b; name = n })) → Derives C d (Link base n)
    -- who is in every part is in the intersection
    meet : {d : List ℕ} {parts : List Part} → DerivesEach C d parts → Derives C d (Meet parts)

  -- a derivation for each of the parts, one or more
  pub data DerivesEach (C : List Credential) : List ℕ → List Part → Type 0 where
    last : {d : List ℕ} {p : Part} → Derives C d (part_expr p) → DerivesEach C d (p ∷ [])
    more : {d : List ℕ} {p q : Part} {parts : List Part} → Derives C d (part_expr p) → DerivesEach C d (q ∷ parts) →
        DerivesEach C d (p ∷ q ∷ parts)
