use Rattle.std.proofs.Common.{refl, arith}
use Rattle.std.proofs.lemmas.Result.{err_from_is_err_and}
use Rattle.credential_text.proofs.intersections.Parts.make.Goals as goal

pub returns-in_err-parts-clause-growth : goal.returns-in_err-parts-clause-growth
returns-in_err-parts-clause-growth c =
    let p = err_from_is_err_and c.from_residual.result c.from_residual.ensures.1 in
    rw p.1 (omega arith, omega arith)

pub invariant_of-result : goal.invariant_of-result
invariant_of-result c = rw c.in_ok-parts.ensures.items (omega arith, omega arith)

pub returns-clause-made : goal.returns-clause-made
returns-clause-made c = (λ _. (omega arith, omega arith), λ _. refl)
