use Rattle.std.proofs.lemmas.Result.{err_from_is_err_and}
use Rattle.hall.specs.declared.calls.requests.Request.TheVariants as request
use Rattle.hall.specs.declared.calls.replies.Reply.TheVariants as reply
use Rattle.pool.proofs.Told.{value_told, refusal_told, only_closed}
use Rattle.pool.proofs.desks.Desk.end.Goals as goal

pub returns-in_err-serve : goal.returns-in_err-serve
returns-in_err-serve g c =
    let p = err_from_is_err_and c.from_residual.result c.from_residual.ensures.1 in
    rw (p.1, p.2) c.in_err-serve.ensures.answered

pub unreachable-requires : goal.unreachable-requires
unreachable-requires g c = only_closed c.args.number c.in_ok-serve.field-0 c.in_ok-serve.ensures.suits c.in_default.not-Refused c.in_default.not-Closed

pub returns-in-Closed : goal.returns-in-Closed
returns-in-Closed g c = value_told (λ (u : Unit {0}). reply.Closed) c.args.pass.now _ (request.Close c.args.number) c.in_ok-serve.field-0 (tt {0}) c.in_ok-serve.ensures.answered c.in-Closed.is

pub returns-in-Refused : goal.returns-in-Refused
returns-in-Refused g c = refusal_told (λ (u : Unit {0}). reply.Closed) c.args.pass.now _ (request.Close c.args.number) c.in_ok-serve.field-0 c.in-Refused.fault c.in_ok-serve.ensures.answered c.in-Refused.is
