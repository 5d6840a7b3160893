-- A text has no fault exactly where it is a name, or spells a role.
use Rattle.std.proofs.Common.{ℕ, true, false, List, [], ◌∷◌, ◌++◌, ◌<◌, ◌≡◌, ◌∙◌, sym, ap, refl}
use Rattle.std.proofs.Common.{Option, Some, None, arith, length}
use Rattle.std.specs.Prelude.{MatchOption, is_some}
use Rattle.std.specs.List.{join_with_byte}
use Rattle.std.proofs.lemmas.List.Splits.{join_with_byte-slice_split}
use Rattle.names.specs.declared.roles.Role.{Role}
use Rattle.names.specs.declared.faults.NameFault.{NameFault}
use Rattle.names.specs.declared.faults.NameFault.TheVariants.{NotRole}
use Rattle.names.specs.Name.{IsName}
use Rattle.names.specs.Fault.{name_fault, role_fault, role_fault_of, or_then}
use Rattle.names.specs.Texts.{dot, pieces}
use Rattle.names.specs.Role.{SpellsRole}
use Rattle.names.specs.Laws.{FaultlessAreNames, FaultlessAreRoles}
use Rattle.names.proofs.Avoiding.{name_avoids, NameParts, name_parts}
use Rattle.names.proofs.PieceLemmas.{pieces_at, pieces_none, some_piece}

-- neither of two faults is there
pub neither : {F : Type 0} (f g : Option F) → or_then f g ≡ None → (f ≡ None) × (g ≡ None)
neither (Some f) g e = cc
neither None g e = (refl, e)

pub name_faultless : (text : List ℕ) → IsName text → name_fault text ≡ None
name_faultless [] name = cc
name_faultless (b ∷ bs) name = let parts : NameParts b bs = name_parts b bs name in simp (parts.starts, parts.goes_on, parts.short)

-- a text without a fault is a name
pub faultless_name : (text : List ℕ) → name_fault text ≡ None → IsName text
faultless_name [] e = cc
faultless_name (b ∷ bs) e = grind arith

-- the pieces of a role's text are its two names
pub role_pieces : (owner name : List ℕ) → IsName owner → IsName name → pieces dot (owner ++ dot ∷ name) ≡ owner ∷ name ∷ []
role_pieces owner name o n =
    pieces_at dot owner name (name_avoids dot refl owner o) ∙ ap (λ (ps : List (List ℕ)). owner ∷ ps) (pieces_none dot name (name_avoids dot refl name n))

-- three pieces or more are no role
pub many_pieces : (owner name : List ℕ) (more : List (List ℕ)) → 0 < length more → role_fault_of (owner ∷ name ∷ more) ≡ Some NotRole
many_pieces owner name [] some = absurd (omega arith)
many_pieces owner name (other ∷ others) some = refl

pub role_faultless : (text : List ℕ) (r : Role) → SpellsRole text r → role_fault text ≡ None
role_faultless text r spells =
    ap role_fault spells.spelled ∙ ap role_fault_of (role_pieces r.owner r.name spells.owner spells.name)
    ∙ simp (name_faultless r.owner spells.owner, name_faultless r.name spells.name)

-- the names of a text without a fault
pub names_of_pieces : (text : List ℕ) (ps : List (List ℕ)) → join_with_byte dot ps ≡ text → role_fault_of ps ≡ None → (r : Role) × SpellsRole text r
names_of_pieces text [] joined e = cc
names_of_pieces text (owner ∷ []) joined e = cc
names_of_pieces text (owner ∷ name ∷ []) joined e =
    let both : (name_fault owner ≡ None) × (name_fault name ≡ None) = neither (name_fault owner) (name_fault name) e in
    (record { owner = owner; name = name }, record { spelled = sym joined; owner = faultless_name owner both.0; name = faultless_name name both.1 })
names_of_pieces text (owner ∷ name ∷ other ∷ others) joined e = cc

pub faultless_are_names : FaultlessAreNames
faultless_are_names text = (faultless_name text, name_faultless text)

pub faultless_are_roles : FaultlessAreRoles
faultless_are_roles text = (
  names_of_pieces text (pieces dot text) (join_with_byte-slice_split dot text),
  λ (spelled : (r : Role) × SpellsRole text r). role_faultless text spelled.0 spelled.1,
)

-- a text with two dots is no role
pub two_dots : {B : Type 0} (value : B → List ℕ) (text owner rest name : List ℕ) (more : Option B) → pieces dot text ≡ owner ∷ pieces dot rest → is_some more ≡ true →
    MatchOption more (pieces dot rest ≡ name ∷ []) (λ m. pieces dot rest ≡ name ∷ pieces dot (value m)) → role_fault text ≡ Some NotRole
two_dots value text owner rest name None first some second = cc
two_dots value text owner rest name (Some more) first some second =
    ap role_fault_of first
    ∙ ap (λ (ps : List (List ℕ)). role_fault_of (owner ∷ ps)) second
    ∙ many_pieces owner name (pieces dot (value more)) (some_piece dot (value more))

-- a text with one dot is two pieces
pub one_dot : {B : Type 0} (value : B → List ℕ) (text owner rest name : List ℕ) (more : Option B)
    → pieces dot text ≡ owner ∷ pieces dot rest → is_some more ≡ false
    → MatchOption more (pieces dot rest ≡ name ∷ []) (λ m. pieces dot rest ≡ name ∷ pieces dot (value m))
    → pieces dot text ≡ owner ∷ name ∷ []
one_dot value text owner rest name None first none second = first ∙ ap (λ (ps : List (List ℕ)). owner ∷ ps) second
one_dot value text owner rest name (Some more) first none second = cc

-- its first fault is that of its owner
pub owner_first : (text owner name : List ℕ) (fault : NameFault) → pieces dot text ≡ owner ∷ name ∷ []
    → name_fault owner ≡ Some fault → role_fault text ≡ Some fault
owner_first text owner name fault both of_owner =
    ap role_fault_of both ∙ ap (λ (f : Option NameFault). or_then f (name_fault name)) of_owner
