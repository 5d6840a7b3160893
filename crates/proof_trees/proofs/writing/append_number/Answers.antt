use Rattle.std.proofs.Common.{◌∙◌, ◌++◌, List, ℕ, ap}
use Rattle.credential_text.proofs.Keeping.{written_last}
use Rattle.proof_trees.proofs.writing.append_number.Goals as goal

pub returns-clause-written : goal.returns-clause-written
returns-clause-written c =
    written_last c.extend_from_slice.result c.args.out.now.items _ _ _ c.extend_from_slice.ensures.items
    (ap (λ (l : List ℕ). c.args.out.now.items ++ l) (c.as_bytes.ensures.value ∙ c.in_ok-number.ensures.ok))
