use Rattle.std.proofs.lemmas.Result.{err_from_is_err_and}
use Rattle.hall.specs.declared.calls.requests.Request.TheVariants as request
use Rattle.hall.specs.declared.calls.replies.Reply.TheVariants as reply
use Rattle.pool.proofs.Told.{value_told, refusal_told, only_counted}
use Rattle.pool.proofs.desks.Desk.change.Goals as goal

pub returns-in_err-count : goal.returns-in_err-count
returns-in_err-count g c =
    let p = err_from_is_err_and c.from_residual.result c.from_residual.ensures.1 in
    rw (p.1, p.2) c.in_err-count.ensures.answered

pub unreachable-requires : goal.unreachable-requires
unreachable-requires g c = only_counted c.args.change c.in_ok-count.field-0 c.in_ok-count.ensures.suits c.in_default.not-Refused c.in_default.not-Counted

pub returns-in-Counted : goal.returns-in-Counted
returns-in-Counted g c = value_told reply.Counted c.args.pass.now _ (request.Alter c.args.change) c.in_ok-count.field-0 c.in-Counted.count c.in_ok-count.ensures.answered c.in-Counted.is

pub returns-in-Refused : goal.returns-in-Refused
returns-in-Refused g c = refusal_told reply.Counted c.args.pass.now _ (request.Alter c.args.change) c.in_ok-count.field-0 c.in-Refused.fault c.in_ok-count.ensures.answered c.in-Refused.is
