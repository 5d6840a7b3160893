-- A name or a role is none.
use Rattle.std.proofs.Common.{refl, sym, inl, inr}
use Rattle.std.proofs.lemmas.Result.{err_from_is_err_and}
use Rattle.service.proofs.commands.read_with_two.Goals as goal

pub returns-in_err-read : goal.returns-in_err-read
returns-in_err-read c =
    let p = err_from_is_err_and c.from_residual.result c.from_residual.ensures.1 in
    rw (p.1, p.2, sym c.if-is_same.ensures) (inr (_, c.in_err-read.ensures.refused, refl))

pub returns-in_err-read-2 : goal.returns-in_err-read-2
returns-in_err-read-2 c =
    let p = err_from_is_err_and c.from_residual-in_err-read-2.result c.from_residual-in_err-read-2.ensures.1 in
    rw (p.1, p.2, sym c.if-is_same.ensures) (inl (_, c.in_ok-read.ensures.role, inr (_, c.in_err-read-2.ensures.refused, refl)))
