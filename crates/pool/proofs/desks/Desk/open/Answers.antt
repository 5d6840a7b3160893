use Rattle.std.proofs.lemmas.Result.{err_from_is_err_and}
use Rattle.hall.specs.declared.calls.requests.Request.TheVariants as request
use Rattle.hall.specs.declared.calls.replies.Reply.TheVariants as reply
use Rattle.pool.specs.declared.verdicts.Ticket.{Ticket}
use Rattle.pool.proofs.Told.{value_told, refusal_told, only_opened}
use Rattle.pool.proofs.desks.Desk.open.Goals as goal

pub returns-in_err-no-clause-answered : goal.returns-in_err-no-clause-answered
returns-in_err-no-clause-answered g c =
    let p = err_from_is_err_and c.from_residual.result c.from_residual.ensures.1 in
    rw (p.1, p.2) c.in_err-no.ensures.answered

pub unreachable-requires : goal.unreachable-requires
unreachable-requires g c = only_opened c.args.query c.in_ok-no.field-0 c.in_ok-no.ensures.suits c.in_default.not-Refused c.in_default.not-Opened

pub returns-in-Opened-clause-answered : goal.returns-in-Opened-clause-answered
returns-in-Opened-clause-answered g c = value_told (λ (t : Ticket). reply.Opened t.no) c.args.pass.now _ (request.Seek c.args.query) c.in_ok-no.field-0 (record { no = c.in-Opened.no; opened_at = c.front.result }) c.in_ok-no.ensures.answered c.in-Opened.is

pub returns-in-Refused-clause-answered : goal.returns-in-Refused-clause-answered
returns-in-Refused-clause-answered g c = refusal_told (λ (t : Ticket). reply.Opened t.no) c.args.pass.now _ (request.Seek c.args.query) c.in_ok-no.field-0 c.in-Refused.fault c.in_ok-no.ensures.answered c.in-Refused.is

pub returns-in-Opened-clause-opened_at : goal.returns-in-Opened-clause-opened_at
returns-in-Opened-clause-opened_at g c = c.front.ensures
