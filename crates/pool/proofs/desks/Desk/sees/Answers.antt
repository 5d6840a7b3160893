use Rattle.std.proofs.lemmas.Result.{err_from_is_err_and}
use Rattle.hall.specs.declared.calls.requests.Request.TheVariants as request
use Rattle.hall.specs.declared.calls.replies.Reply.TheVariants as reply
use Rattle.pool.proofs.Told.{value_told, refusal_told, only_sees}
use Rattle.pool.proofs.desks.Desk.sees.Goals as goal

pub returns-in_err-sights : goal.returns-in_err-sights
returns-in_err-sights g c =
    let p = err_from_is_err_and c.from_residual.result c.from_residual.ensures.1 in
    rw (p.1, p.2) c.in_err-sights.ensures.answered

pub unreachable-requires : goal.unreachable-requires
unreachable-requires g c = only_sees c.in_ok-sights.field-0 c.in_ok-sights.ensures.suits c.in_default.not-Refused c.in_default.not-Sees

pub returns-in-Sees : goal.returns-in-Sees
returns-in-Sees g c = value_told reply.Sees c.args.pass.now _ request.Sees c.in_ok-sights.field-0 c.in-Sees.sights c.in_ok-sights.ensures.answered c.in-Sees.is

pub returns-in-Refused : goal.returns-in-Refused
returns-in-Refused g c = refusal_told reply.Sees c.args.pass.now _ request.Sees c.in_ok-sights.field-0 c.in-Refused.fault c.in_ok-sights.ensures.answered c.in-Refused.is
