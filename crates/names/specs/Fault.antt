-- Which texts are refused as a name or a role, and as what: the first fault that applies.
use Rattle.std.specs.Prelude.{ℕ, List, [], ◌∷◌, not, nat_le, length, Option, Some, None, if◌then◌else◌}
use Rattle.std.specs.List.{list_all}
use Rattle.names.specs.declared.faults.NameFault.{NameFault}
use Rattle.names.specs.declared.faults.NameFault.TheVariants.{Empty, Start, Byte, Long, NotRole}
use Rattle.names.specs.Name.{is_letter, is_name_byte}
use Rattle.names.specs.Texts.{dot, pieces}

-- the first that applies: nothing there, a first byte that is no letter, a later byte that isn't allowed, too long
abbrev pub name_fault : List ℕ → Option NameFault
name_fault [] = Some Empty
name_fault (b ∷ bs) =
    if not (is_letter b) then Some Start
    else (if not (list_all is_name_byte bs) then Some Byte
    else (if not (nat_le (length (b ∷ bs)) 64) then Some Long
    else None))

-- the first of two faults that is there
abbrev pub or_then : {F : Type 0} → Option F → Option F → Option F
or_then (Some f) _ = Some f
or_then None g = g

-- the first that applies: not one dot, then the faults of the owner, then those of the role name
abbrev pub role_fault_of : List (List ℕ) → Option NameFault
role_fault_of [] = Some NotRole
role_fault_of (owner ∷ []) = Some NotRole
role_fault_of (owner ∷ name ∷ []) = or_then (name_fault owner) (name_fault name)
role_fault_of (owner ∷ name ∷ other ∷ others) = Some NotRole

-- the first fault of a text as a role: not one dot between two texts, then those of the owner, then those of the role name
abbrev pub role_fault : List ℕ → Option NameFault
role_fault text = role_fault_of (pieces dot text)

-- the number of each fault
abbrev pub name_fault_number : NameFault → ℕ
name_fault_number Empty = 11
name_fault_number Start = 12
name_fault_number Byte = 13
name_fault_number Long = 14
name_fault_number NotRole = 15
