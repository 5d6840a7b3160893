-- The lines of the first steps and of one more.
use Rattle.std.proofs.Common.{◌≡◌, ◌∙◌, ℕ, ◌+◌, List, [], ◌∷◌, ◌++◌, length, ap, sym, arith, append_assoc, Option, codes, Result, Ok, Err, OnOk, OnErr, take}
use Rattle.std.proofs.lemmas.List.{append-nil}
use Rattle.std.specs.Option.{option_map_or}
use Rattle.names.specs.Role.{role_text}
use Rattle.credential_text.specs.declared.exprs.Expr.{Expr}
use Rattle.credential_text.specs.Expr.{expr_text}
use Rattle.credential_text.proofs.Keeping.{Keeps, keeps-append, keeps_same}
use Rattle.proof_trees.specs.declared.steps.Step.{Step}
use Rattle.proof_trees.specs.Text.{line_text, lines_from}
use Rattle.proof_trees.specs.Laws.{CitedAreCanonical}

-- what four writes append
pub joined : {w x y z : List ℕ} (start a b c d : List ℕ) → w ≡ start ++ a → x ≡ w ++ b → y ≡ x ++ c → z ≡ y ++ d → z ≡ start ++ (a ++ b ++ c ++ d)
joined start a b c d first second third fourth = rw (fourth, third, second, first) (simp append_assoc)

-- what a credential appends, and two writes more
pub cited : {x y z : List ℕ} (start a b c d e : List ℕ) → x ≡ start ++ a ++ b ++ c → y ≡ x ++ d → z ≡ y ++ e → z ≡ start ++ (a ++ b ++ c ++ d ++ e)
cited start a b c d e first second third = rw (third, second, first) (simp append_assoc)

-- what two writes append
pub twice : {y z : List ℕ} (start a b : List ℕ) → y ≡ start ++ a → z ≡ y ++ b → z ≡ start ++ (a ++ b)
twice start a b first second = second ∙ ap (λ (l : List ℕ). l ++ b) first ∙ append_assoc start a b

-- what a write that may fail keeps
pub keeps_written : {T E : Type 0} (r : Result T E) (mid more new : List ℕ) → OnOk r (new ≡ mid ++ more) → OnErr r (new ≡ mid) → Keeps mid new
keeps_written (Ok x) mid more new written unchanged = ap (take (length mid)) written ∙ keeps-append mid more
keeps_written (Err e) mid more new written unchanged = keeps_same mid new unchanged

-- a line more
pub lines_push : (steps : List Step) (number : ℕ) (some : List Step) (s : Step) (n : ℕ) → n ≡ number + length some → lines_from steps number (some ++ s ∷ []) ≡ lines_from steps number some ++ line_text steps n s
lines_push steps number [] s n is = append-nil (line_text steps number s) ∙ ap (λ k. line_text steps k s) (omega arith)
lines_push steps number (t ∷ some) s n is =
    ap (λ (text : List ℕ). line_text steps number t ++ text) (lines_push steps (number + 1) some s n (omega arith))
    ∙ sym (append_assoc (line_text steps number t) (lines_from steps (number + 1) some) (line_text steps n s))

-- the claim of a step, if there is one
abbrev pub claim_text : Option Step → List ℕ
claim_text found = option_map_or (λ (s : Step). expr_text s.claim) found []

-- the step of its body gives a credential's text its second half
pub cited_canonical : CitedAreCanonical
cited_canonical c steps place who (s, at, whose, what) =
    ap (λ (found : Option Step). role_text c.head ++ codes " <- " ++ claim_text found) at ∙ ap (λ (e : Expr). role_text c.head ++ codes " <- " ++ expr_text e) what
