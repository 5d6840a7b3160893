-- What a search for a role's members has to ask: which expressions it comes to, and why one asks another.
use Rattle.std.specs.Prelude.{ℕ, List, ◌≡◌, Contains, Some}
use Rattle.std.specs.List.{slice_get}
use Rattle.names.specs.declared.roles.Role.{Role}
use Rattle.credential_text.specs.declared.credentials.Credential.{Credential}
use Rattle.credential_text.specs.declared.intersections.Part.{Part}
use Rattle.credential_text.specs.declared.exprs.Expr.{Expr}
use Rattle.credential_text.specs.declared.exprs.Expr.TheVariants.{Rol, Link, Meet}
use Rattle.credential_text.specs.Expr.{part_expr}
use Rattle.rt0_rules.specs.Derivation.{Derives}

-- why one expression asks another
pub data Why : Type 0 where
  -- a role asks the body of a credential
  for_body : Why
  -- a linked role asks its base
  for_base : Why
  -- a linked role asks the role of this member of its base
  for_via : List ℕ → Why
  -- an intersection asks the part at this place
  for_part : ℕ → Why

-- the first expression asks the other for this reason, where the test says who is a member of a base
pub data Asks (C : List Credential) (is_member : List ℕ → Expr → Type 0) : Expr → Why → Expr → Type 0 where
  asks_body : {r : Role} (c : Credential) → Contains C c → c.head ≡ r → Asks C is_member (Rol r) for_body c.body
  asks_base : (r : Role) (n : List ℕ) → Asks C is_member (Link r n) for_base (Rol r)
  asks_via : {r : Role} (n b : List ℕ) → is_member b (Rol r) →
      Asks C is_member (Link r n) (for_via b) (Rol (record { owner = b; name = n }))
  asks_part : {parts : List Part} (i : ℕ) (p : Part) → slice_get parts i ≡ Some p →
      Asks C is_member (Meet parts) (for_part i) (part_expr p)

-- a finite chain of asks leads from the role to the expression
pub data Demanded (C : List Credential) (role : Role) : Expr → Type 0 where
  asked_role : Demanded C role (Rol role)
  asked_by : {e f : Expr} (why : Why) → Demanded C role e → Asks C (Derives C) e why f → Demanded C role f
