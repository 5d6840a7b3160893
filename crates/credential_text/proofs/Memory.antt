-- No text is refused for want of memory.
use Rattle.std.proofs.Common.{ℕ, Bool, true, false, List, [], ◌∷◌, ◌≡◌, Option, Some, None, cond}
use Rattle.names.specs.declared.faults.NameFault.{NameFault}
use Rattle.names.specs.Fault.{name_fault, or_then}
use Rattle.names.specs.Texts.{dot, pieces}
use Rattle.credential_text.specs.declared.faults.CredFault.{CredFault}
use Rattle.credential_text.specs.declared.faults.CredFault.TheVariants as faults
use Rattle.names.specs.Name.{is_same}
use Rattle.credential_text.specs.Refusal.{as_cred_fault, part_fault, part_fault_of, first_part_fault}

no_name_memory : (o : Option NameFault) → as_cred_fault o ≡ Some faults.Memory → ⊥
no_name_memory None e = cc
no_name_memory (Some fault) e = cc

-- the first of two faults that are not want of memory isn't
or_memory : (f g : Option CredFault) → (f ≡ Some faults.Memory → ⊥) → (g ≡ Some faults.Memory → ⊥) → or_then f g ≡ Some faults.Memory → ⊥
or_memory None g first second e = second e
or_memory (Some f) g first second e = first e

no_base_memory : (same : Bool) → cond same None (Some faults.LinkBase) ≡ Some faults.Memory → ⊥
no_base_memory true e = cc
no_base_memory false e = cc

no_piece_memory : (owner : List ℕ) (ps : List (List ℕ)) → part_fault_of owner ps ≡ Some faults.Memory → ⊥
no_piece_memory owner [] e = cc
no_piece_memory owner (a ∷ []) e = no_name_memory (name_fault a) e
no_piece_memory owner (a ∷ b ∷ []) e = no_name_memory (or_then (name_fault a) (name_fault b)) e
no_piece_memory owner (a ∷ b ∷ c ∷ []) e =
    or_memory (as_cred_fault (or_then (name_fault a) (or_then (name_fault b) (name_fault c)))) (cond (is_same a owner) None (Some faults.LinkBase))
    (no_name_memory (or_then (name_fault a) (or_then (name_fault b) (name_fault c)))) (no_base_memory (is_same a owner)) e
no_piece_memory owner (a ∷ b ∷ c ∷ d ∷ more) e = cc

-- no part is refused for want of memory
pub no_part_memory : (owner : List ℕ) (texts : List (List ℕ)) → first_part_fault owner texts ≡ Some faults.Memory → ⊥
no_part_memory owner [] e = cc
no_part_memory owner (t ∷ ts) e =
    or_memory (part_fault owner t) (first_part_fault owner ts) (no_piece_memory owner (pieces dot t)) (no_part_memory owner ts) e
