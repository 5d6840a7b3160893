use Rattle.credential_text.specs.Equality.{exprs_decided}
use Rattle.credential_text.proofs.laws.equality_is_exact.Goals as goal

pub returns-clause-exprs : goal.returns-clause-exprs
returns-clause-exprs c = exprs_decided
