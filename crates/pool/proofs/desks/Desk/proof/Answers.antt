use Rattle.std.proofs.lemmas.Result.{err_from_is_err_and}
use Rattle.hall.specs.declared.calls.requests.Request.TheVariants as request
use Rattle.hall.specs.declared.calls.replies.Reply.TheVariants as reply
use Rattle.pool.proofs.Told.{value_told, refusal_told, only_proved}
use Rattle.pool.proofs.desks.Desk.proof.Goals as goal

pub returns-in_err-proof : goal.returns-in_err-proof
returns-in_err-proof g c =
    let p = err_from_is_err_and c.from_residual.result c.from_residual.ensures.1 in
    rw (p.1, p.2) c.in_err-proof.ensures.answered

pub unreachable-requires : goal.unreachable-requires
unreachable-requires g c = only_proved c.args.number c.args.member c.in_ok-proof.field-0 c.in_ok-proof.ensures.suits c.in_default.not-Refused c.in_default.not-Proof

pub returns-in-Proof : goal.returns-in-Proof
returns-in-Proof g c = value_told reply.Proof c.args.pass.now _ (request.Proof c.args.number c.args.member) c.in_ok-proof.field-0 c.in-Proof.proof c.in_ok-proof.ensures.answered c.in-Proof.is

pub returns-in-Refused : goal.returns-in-Refused
returns-in-Refused g c = refusal_told reply.Proof c.args.pass.now _ (request.Proof c.args.number c.args.member) c.in_ok-proof.field-0 c.in-Refused.fault c.in_ok-proof.ensures.answered c.in-Refused.is
