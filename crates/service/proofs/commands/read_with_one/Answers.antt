-- A star stands for every reader, and is read before names.
use Rattle.std.proofs.Common.{sym, refl, inl, inr}
use Rattle.std.proofs.lemmas.Result.{err_from_is_err_and}
use Rattle.service.proofs.commands.read_with_one.Goals as goal

pub returns-then-is_same-2 : goal.returns-then-is_same-2
returns-then-is_same-2 c = rw (sym c.if-is_same.ensures, sym c.if-is_same-2.ensures) refl

pub returns-in_err-read : goal.returns-in_err-read
returns-in_err-read c =
    let p = err_from_is_err_and c.from_residual.result c.from_residual.ensures.1 in
    rw (p.1, p.2, sym c.if-is_same.ensures, sym c.if-is_same-2.ensures) (inr (_, c.in_err-read.ensures.refused, refl))

pub returns-then-is_same-5 : goal.returns-then-is_same-5
returns-then-is_same-5 c =
    rw (sym c.if-is_same.ensures, sym c.if-is_same-3.ensures, sym c.if-is_same-5.ensures)
    (inl (_, c.in_ok-read-3.ensures.role, refl))

pub returns-then-is_same-4 : goal.returns-then-is_same-4
returns-then-is_same-4 c = rw (sym c.if-is_same.ensures, sym c.if-is_same-3.ensures, sym c.if-is_same-4.ensures) refl

pub returns-in_err-read-2 : goal.returns-in_err-read-2
returns-in_err-read-2 c =
    let p = err_from_is_err_and c.from_residual-in_err-read-2.result c.from_residual-in_err-read-2.ensures.1 in
    rw (p.1, p.2, sym c.if-is_same.ensures, sym c.if-is_same-3.ensures, sym c.if-is_same-4.ensures)
    (inr (_, c.in_err-read-2.ensures.refused, refl))

pub returns-in_err-read-3 : goal.returns-in_err-read-3
returns-in_err-read-3 c =
    let p = err_from_is_err_and c.from_residual-in_err-read-3.result c.from_residual-in_err-read-3.ensures.1 in
    rw (p.1, p.2, sym c.if-is_same.ensures, sym c.if-is_same-3.ensures, sym c.if-is_same-5.ensures)
    (inr (_, c.in_err-read-3.ensures.refused, refl))
