use Rattle.std.proofs.Common.{refl, arith}
use Rattle.std.proofs.lemmas.Result.{err_from_is_err_and}
use Rattle.scholten_core.proofs.engagement.make_place.Goals as goal

pub returns-then-place-len : goal.returns-then-place-len
returns-then-place-len c = record { place = omega (arith, c.if-place-len.true, c.len.ensures); same = λ n. refl; unchanged = tt }

pub returns-in_err-reserve : goal.returns-in_err-reserve
returns-in_err-reserve c =
    let p = err_from_is_err_and c.from_residual.result c.from_residual.ensures.1 in
    rw p.1 (record { place = tt; same = tt; unchanged = c.reserve.ensures.items })
