-- Credentials: what makes one, and their order.
use Rattle.std.specs.Prelude.{IsTrue}
use Rattle.std.specs.List.{list_all}
use Rattle.std.specs.declared.cmp.Ordering.{Ordering}
use Rattle.std.specs.Ordering.{on, then_cmp}
use Rattle.names.specs.Name.{IsName}
use Rattle.names.specs.Role.{role_order}
use Rattle.credential_text.specs.declared.credentials.Credential.{Credential}
use Rattle.credential_text.specs.Part.{has_names}
use Rattle.credential_text.specs.Expr.{expr_parts, expr_order, HasPartsInRange}

-- every name in it is one, and an intersection has 2 to 8 parts
pub record IsCredential (c : Credential) : Type 0 where
  pub owner : IsName c.head.owner
  pub name : IsName c.head.name
  pub names : IsTrue (list_all has_names (expr_parts c.body))
  pub parts : HasPartsInRange c.body

-- by head, then by body
abbrev pub credential_order : Credential → Credential → Ordering
credential_order = then_cmp (on (λ c. c.head) role_order) (on (λ c. c.body) expr_order)
