use Rattle.std.proofs.Common.{ℕ, true, None, List, ◌∷◌, ◌≡◌, ◌≤◌, ◌∙◌, sym, ap, length, arith}
use Rattle.std.specs.List.{list_all}
use Rattle.std.proofs.lemmas.Bool.{le-leb}
use Rattle.names.specs.Name.{is_letter, is_name_byte}
use Rattle.names.specs.Fault.{name_fault}
use Rattle.names.proofs.reading.fault_of.Goals as goal

faultless : (text : List ℕ) (b : ℕ) (bs : List ℕ) → text ≡ b ∷ bs
    → true ≡ is_letter b → true ≡ list_all is_name_byte bs → length text ≤ 64 → None ≡ name_fault text
faultless text b bs is letter others short =
    let fits = le-leb (length (b ∷ bs)) 64 (omega (arith, ap length is)) in
    sym (ap name_fault is ∙ simp (sym letter, sym others, fits))

pub returns : goal.returns
returns c =
    faultless _ _ _ c.in-Some.ensures.cases.0 c.if-not-is_ascii_alphabetic.ensures.value c.if-not-are_name_bytes.ensures
    (omega arith)
