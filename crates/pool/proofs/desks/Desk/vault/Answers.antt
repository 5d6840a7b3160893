use Rattle.std.proofs.lemmas.Result.{err_from_is_err_and}
use Rattle.hall.specs.declared.calls.requests.Request.TheVariants as request
use Rattle.hall.specs.declared.calls.replies.Reply.TheVariants as reply
use Rattle.pool.proofs.Told.{value_told, refusal_told, only_vault}
use Rattle.pool.proofs.desks.Desk.vault.Goals as goal

pub returns-in_err-rows : goal.returns-in_err-rows
returns-in_err-rows g c =
    let p = err_from_is_err_and c.from_residual.result c.from_residual.ensures.1 in
    rw (p.1, p.2) c.in_err-rows.ensures.answered

pub unreachable-requires : goal.unreachable-requires
unreachable-requires g c = only_vault c.in_ok-rows.field-0 c.in_ok-rows.ensures.suits c.in_default.not-Refused c.in_default.not-Vault

pub returns-in-Vault : goal.returns-in-Vault
returns-in-Vault g c = value_told reply.Vault c.args.pass.now _ request.Vault c.in_ok-rows.field-0 c.in-Vault.rows c.in_ok-rows.ensures.answered c.in-Vault.is

pub returns-in-Refused : goal.returns-in-Refused
returns-in-Refused g c = refusal_told reply.Vault c.args.pass.now _ request.Vault c.in_ok-rows.field-0 c.in-Refused.fault c.in_ok-rows.ensures.answered c.in-Refused.is
