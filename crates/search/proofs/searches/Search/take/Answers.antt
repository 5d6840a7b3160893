use Rattle.std.proofs.Common.{arith, inl, refl, sym}
use Rattle.std.proofs.lemmas.Option.{none-some}
use Rattle.std.proofs.lemmas.Result.{err_from_is_err_and}
use Rattle.search.proofs.searches.Search.take.Goals as goal

pub returns-in_err-snap : goal.returns-in_err-snap
returns-in_err-snap c =
    rw (err_from_is_err_and c.from_residual.result c.from_residual.ensures.1).1 (record { none = tt; task = tt; snapshot = tt; settles = inl refl; unchanged = refl; waits = omega arith })

pub returns-in_default-clause-none : goal.returns-in_default-clause-none
returns-in_default-clause-none c = λ none. c.in_default.ensures.taken

pub returns-clause-none : goal.returns-clause-none
returns-clause-none c = λ none. absurd (none-some _ (sym none))

pub returns-clause-task : goal.returns-clause-task
returns-clause-task c = c.in-Some.ensures.taken
