-- A service that fails after it began.
use Rattle.std.proofs.Common.{inr}
use Rattle.std.proofs.lemmas.Option.{IfSome_then}
use Rattle.rtsearch.proofs.serving.run_service.Goals as goal

pub returns-clause-failed : goal.returns-clause-failed
returns-clause-failed g c one =
    let wrote = rw c.in-Ok.ensures.silent at c.in-Err.ensures.wrote in
    IfSome_then (g.R.Read.remaining c.args.reader.now) c.in-Ok.ensures.roster
    (λ input opens. inr (inr ((c.in-Ok.roster, opens.0, opens.1), (c.in-Err._fault, wrote))))

pub returns-in_default-clause-served : goal.returns-in_default-clause-served
returns-in_default-clause-served g c zero = cc

pub returns-in_default-bind-clause-served : goal.returns-in_default-bind-clause-served
returns-in_default-bind-clause-served g c zero = cc

pub returns-in-Ok-serve-clause-failed : goal.returns-in-Ok-serve-clause-failed
returns-in-Ok-serve-clause-failed g c one = cc

pub returns-clause-served : goal.returns-clause-served
returns-clause-served g c zero = cc
