-- The command was read and carried out, or refused.
use Rattle.service.specs.Command.{form_of}
use Rattle.service.proofs.SaidLemmas.{Becomes-served, Becomes-refused}
use Rattle.service.proofs.scripts.answer_tenant.Goals as goal

pub returns-in-Ok : goal.returns-in-Ok
returns-in-Ok c =
    Becomes-served c.args.hall.now c.carry_out.new.hall c.args.who (form_of c.args.said.now) c.in-Ok.command c.carry_out.result c.fill_reply.new.buffer
    c.in-Ok.ensures c.carry_out.ensures c.fill_reply.ensures

pub returns-in-Err : goal.returns-in-Err
returns-in-Err c =
    Becomes-refused c.args.hall.now c.args.who (form_of c.args.said.now) c.in-Err.refusal c.fill_error.new.buffer c.in-Err.ensures (rw c.number.ensures at c.fill_error.ensures)
