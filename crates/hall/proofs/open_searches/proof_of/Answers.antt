use Rattle.std.proofs.lemmas.Result.{err_from_is_err_and}
use Rattle.hall.proofs.Viewed.{proved_over, unproved_over}
use Rattle.hall.proofs.open_searches.proof_of.Goals as goal

pub returns-in_err-proof_of : goal.returns-in_err-proof_of
returns-in_err-proof_of c =
    let p = err_from_is_err_and c.from_residual.result c.from_residual.ensures.1 in
    rw p.1 (unproved_over c.args.search.now c.args.member.now c.in_err-proof_of.field-0.0 p.0 p.2 c.in_err-proof_of.ensures.refused)

pub returns : goal.returns
returns c = proved_over c.args.search.now c.args.member.now c.in_ok-proof_of.field-0 c.in_ok-proof_of.ensures.completed c.in_ok-proof_of.ensures.proof
