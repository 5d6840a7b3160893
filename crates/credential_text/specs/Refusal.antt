-- Which texts are refused as a credential, and as what: the first refusal that applies, by whole lists.
use Rattle.std.specs.Prelude.{ℕ, Bool, true, false, List, [], ◌∷◌, ◌==◌, ◌&&◌, ◌||◌, nat_lt, length, map, Option, Some, None, if◌then◌else◌}
use Rattle.std.specs.List.{list_any}
use Rattle.names.specs.declared.faults.NameFault.{NameFault}
use Rattle.names.specs.declared.faults.NameFault.TheVariants as name
use Rattle.names.specs.Fault.{name_fault, role_fault, or_then}
use Rattle.names.specs.Texts.{dot, is_blank, pieces, trim}
use Rattle.credential_text.specs.declared.faults.CredFault.{CredFault}
use Rattle.credential_text.specs.declared.faults.CredFault.TheVariants as faults
use Rattle.names.specs.Name.{is_same}
use Rattle.credential_text.specs.Spelling.{ampersand}

-- the byte before what stands before the arrow
abbrev pub put_before : ℕ → Option (List ℕ × List ℕ) → Option (List ℕ × List ℕ)
put_before b None = None
put_before b (Some (before, after)) = Some (b ∷ before, after)

-- what stands before the first "<-" and what stands after it
abbrev pub split_arrow : List ℕ → Option (List ℕ × List ℕ)
split_arrow [] = None
split_arrow (b ∷ []) = None
split_arrow (b ∷ c ∷ bs) = if (b == 60) && (c == 45) then Some ([], bs) else put_before b (split_arrow (c ∷ bs))

-- the fault of a name, as one of a credential
abbrev pub as_cred_fault : Option NameFault → Option CredFault
as_cred_fault None = None
as_cred_fault (Some fault) = Some (faults.Name fault)

-- not one dot, then the faults of the two names
abbrev pub head_fault_of : Option NameFault → Option CredFault
head_fault_of None = None
head_fault_of (Some name.NotRole) = Some faults.Head
head_fault_of (Some fault) = Some (faults.Name fault)

-- the first fault of a text as a head
abbrev pub head_fault : List ℕ → Option CredFault
head_fault head = head_fault_of (role_fault head)

-- more than two dots, then the faults of the names, then a base that is another owner's role
abbrev pub part_fault_of : List ℕ → List (List ℕ) → Option CredFault
part_fault_of owner [] = None
part_fault_of owner (a ∷ []) = as_cred_fault (name_fault a)
part_fault_of owner (a ∷ b ∷ []) = as_cred_fault (or_then (name_fault a) (name_fault b))
part_fault_of owner (a ∷ b ∷ c ∷ []) =
    or_then (as_cred_fault (or_then (name_fault a) (or_then (name_fault b) (name_fault c))))
    (if is_same a owner then None else Some faults.LinkBase)
part_fault_of owner (a ∷ b ∷ c ∷ d ∷ more) = Some faults.Dots

-- the first fault of a text as a part of a body whose head is this owner's
abbrev pub part_fault : List ℕ → List ℕ → Option CredFault
part_fault owner part = part_fault_of owner (pieces dot part)

-- the first fault of the parts from left to right
abbrev pub first_part_fault : List ℕ → List (List ℕ) → Option CredFault
first_part_fault owner [] = None
first_part_fault owner (part ∷ parts) = or_then (part_fault owner part) (first_part_fault owner parts)

-- no byte stands there
abbrev pub is_empty : List ℕ → Bool
is_empty [] = true
is_empty (b ∷ bs) = false

-- the parts' texts
abbrev pub part_texts : List ℕ → List (List ℕ)
part_texts body = map trim (pieces ampersand body)

-- more than 8 parts or an empty one, then the faults of each part
abbrev pub parts_fault : List ℕ → List (List ℕ) → Option CredFault
parts_fault owner parts =
    if nat_lt 8 (length parts) || list_any is_empty parts then Some faults.Parts
    else first_part_fault owner parts

-- nothing but spaces, then the faults of the parts
abbrev pub body_fault : List ℕ → List ℕ → Option CredFault
body_fault owner body =
    if is_blank body then Some faults.BodyEmpty
    else parts_fault owner (part_texts body)

-- the first of the pieces, or nothing
abbrev pub first_piece : List (List ℕ) → List ℕ
first_piece [] = []
first_piece (piece ∷ more) = piece

-- what stands before a head's dot
abbrev pub owner_text : List ℕ → List ℕ
owner_text head = first_piece (pieces dot head)

-- no arrow, or the first fault of what stands before it and then of what stands after it
abbrev pub fault_round : Option (List ℕ × List ℕ) → Option CredFault
fault_round None = Some faults.NoArrow
fault_round (Some (before, after)) = or_then (head_fault (trim before)) (body_fault (owner_text (trim before)) after)

-- too long, no arrow, then the faults of the head, then those of the body
abbrev pub refusal : List ℕ → Option CredFault
refusal text = if nat_lt 4096 (length text) then Some faults.Long else fault_round (split_arrow text)

-- several parts stand after the arrow
abbrev pub several_after : Option (List ℕ × List ℕ) → Bool
several_after None = false
several_after (Some (before, after)) = nat_lt 1 (length (part_texts after))

-- the text has an arrow, and several parts behind it
abbrev pub has_parts : List ℕ → Bool
has_parts text = several_after (split_arrow text)
