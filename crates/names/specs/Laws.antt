-- What holds of names and roles by their definitions alone.
use Rattle.std.specs.Prelude.{ℕ, List, ◌≡◌, ◌↔◌, None}
use Rattle.names.specs.declared.roles.Role.{Role}
use Rattle.names.specs.Name.{IsName, name_order}
use Rattle.names.specs.Fault.{name_fault, role_fault}
use Rattle.names.specs.Role.{SpellsRole, role_order}
use Rattle.names.specs.Order.{IsOrder}

-- a text has no fault exactly where it is a name
abbrev pub FaultlessAreNames : Type 0
FaultlessAreNames = (text : List ℕ) → (name_fault text ≡ None) ↔ IsName text

-- a text has no fault exactly where it spells a role
abbrev pub FaultlessAreRoles : Type 0
FaultlessAreRoles = (text : List ℕ) → (role_fault text ≡ None) ↔ ((r : Role) × SpellsRole text r)

-- the order of names is one
abbrev pub NamesInOrder : Type 0
NamesInOrder = IsOrder name_order

-- the order of roles is one
abbrev pub RolesInOrder : Type 0
RolesInOrder = IsOrder role_order
