-- The rest of the line spells a credential, or is refused.
use Rattle.std.proofs.lemmas.Result.{err_from_is_err_and}
use Rattle.service.proofs.CommandLemmas.{Reads-put, Reads-drop, Reads-put_refused, Reads-drop_refused}
use Rattle.service.proofs.commands.read_command.Goals as goal

pub returns-then-is_same : goal.returns-then-is_same
returns-then-is_same c =
    Reads-put c.args.text.now c.in-Some.verb.now c.in-Some.rest.now c.in_ok-credential_of.field-0 c.in-Some.ensures.found c.in-Some.ensures.rest
    c.in_ok-credential_of.ensures.spelled c.if-is_same.ensures

pub returns-then-is_same-2 : goal.returns-then-is_same-2
returns-then-is_same-2 c =
    Reads-drop c.args.text.now c.in-Some.verb.now c.in-Some.rest.now c.in_ok-credential_of-2.field-0 c.in-Some.ensures.found c.in-Some.ensures.rest
    c.in_ok-credential_of-2.ensures.spelled c.if-is_same.ensures c.if-is_same-2.ensures

pub returns-in_err-credential_of : goal.returns-in_err-credential_of
returns-in_err-credential_of c =
    let p = err_from_is_err_and c.from_residual.result c.from_residual.ensures.1 in
    rw (p.1, p.2) (Reads-put_refused c.args.text.now c.in-Some.verb.now c.in-Some.rest.now c.in-Some.ensures.found c.in-Some.ensures.rest _
    c.in_err-credential_of.ensures.refused c.if-is_same.ensures)

pub returns-in_err-credential_of-2 : goal.returns-in_err-credential_of-2
returns-in_err-credential_of-2 c =
    let p = err_from_is_err_and c.from_residual-in_err-credential_of-2.result c.from_residual-in_err-credential_of-2.ensures.1 in
    rw (p.1, p.2) (Reads-drop_refused c.args.text.now c.in-Some.verb.now c.in-Some.rest.now c.in-Some.ensures.found c.in-Some.ensures.rest _
    c.in_err-credential_of-2.ensures.refused c.if-is_same.ensures c.if-is_same-2.ensures)
