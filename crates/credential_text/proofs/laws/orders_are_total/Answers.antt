use Rattle.credential_text.proofs.OrderLemmas.{exprs_in_order, credentials_in_order}
use Rattle.credential_text.proofs.laws.orders_are_total.Goals as goal

pub returns-clause-exprs : goal.returns-clause-exprs
returns-clause-exprs c = exprs_in_order

pub returns-clause-credentials : goal.returns-clause-credentials
returns-clause-credentials c = credentials_in_order
