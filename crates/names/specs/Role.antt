-- A role: an owner and a role name, written with a dot between them.
use Rattle.std.specs.Prelude.{ℕ, List, ◌∷◌, ◌++◌, ◌≡◌}
use Rattle.std.specs.declared.cmp.Ordering.{Ordering}
use Rattle.std.specs.Ordering.{on, then_cmp}
use Rattle.names.specs.declared.roles.Role.{Role}
use Rattle.names.specs.Name.{IsName, name_order}
use Rattle.names.specs.Texts.{dot}

-- owner '.' name
abbrev pub role_text : Role → List ℕ
role_text r = r.owner ++ dot ∷ r.name

-- the text is that of the role, and both its names are names
pub record SpellsRole (text : List ℕ) (r : Role) : Type 0 where
  pub spelled : text ≡ role_text r
  pub owner : IsName r.owner
  pub name : IsName r.name

-- by owner, then by role name
abbrev pub role_order : Role → Role → Ordering
role_order = then_cmp (on (λ r. r.owner) name_order) (on (λ r. r.name) name_order)
