use Rattle.std.proofs.Common.{refl}
use Rattle.std.proofs.lemmas.Bool.{and_from}
use Rattle.std.proofs.lemmas.Result.{on_ok_weaker}
use Rattle.credential_text.proofs.writing.append_expr.Goals as goal

pub returns-in-Link-clause-written : goal.returns-in-Link-clause-written
returns-in-Link-clause-written c = rw c.in-Link.is c.append_part-in-Link.ensures.written

pub returns-in-Link-clause-names : goal.returns-in-Link-clause-names
returns-in-Link-clause-names c =
    rw c.in-Link.is (on_ok_weaker c.append_part-in-Link.result
    (λ named. and_from _ _ named refl) c.append_part-in-Link.ensures.names)
