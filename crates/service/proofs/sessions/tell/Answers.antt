-- The command was read and carried out, or refused.
use Rattle.std.proofs.Common.{refl, Ok, Err}
use Rattle.service.specs.Session.{IsSessionReply}
use Rattle.service.proofs.ToldLemmas.{filled_refusal}
use Rattle.service.proofs.sessions.tell.Goals as goal

pub returns-in-Ok-carry_out : goal.returns-in-Ok-carry_out
returns-in-Ok-carry_out g c =
    IsSessionReply.carried_out c.in-Ok.command (Ok c.in-Ok-carry_out.told) c.in-Ok.ensures c.in-Ok-carry_out.ensures c.fill_reply.ensures

pub returns-in-Err-carry_out : goal.returns-in-Err-carry_out
returns-in-Err-carry_out g c =
    IsSessionReply.carried_out c.in-Ok.command (Err c.in-Err-carry_out.fault) c.in-Ok.ensures c.in-Err-carry_out.ensures
    (filled_refusal _ _ c.in-Ok.command c.in-Err-carry_out.fault _ c.in-Err-carry_out.ensures (rw c.number.ensures at c.fill_error.ensures))

pub returns-in-Err : goal.returns-in-Err
returns-in-Err g c = IsSessionReply.refused c.in-Err.refusal c.in-Err.ensures (rw c.number-in-Err.ensures at c.fill_error-in-Err.ensures) refl
