-- Membership in a role, and the list of its members.
use Rattle.std.specs.Prelude.{ℕ, List, Contains, ◌↔◌}
use Rattle.names.specs.Name.{name_order}
use Rattle.names.specs.declared.roles.Role.{Role}
use Rattle.credential_text.specs.declared.credentials.Credential.{Credential}
use Rattle.credential_text.specs.declared.exprs.Expr.TheVariants.{Rol}
use Rattle.rt0_rules.specs.Derivation.{Derives}
use Rattle.std.specs.List.Sorted.{IsStrictlySortedBy}

-- d is a member of the role
abbrev pub IsMember : List Credential → List ℕ → Role → Type 0
IsMember C d role = Derives C d (Rol role)

-- the list has the role's members and nobody else, in order, each once
pub record AreMembers (C : List Credential) (role : Role) (members : List (List ℕ)) : Type 0 where
  pub in_order : IsStrictlySortedBy name_order members
  pub exact : (d : List ℕ) → Contains members d ↔ IsMember C d role
