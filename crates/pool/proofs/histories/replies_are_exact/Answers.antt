use Rattle.pool.proofs.Own.{replies_exact}
use Rattle.pool.proofs.histories.replies_are_exact.Goals as goal

pub returns : goal.returns
returns c = replies_exact
