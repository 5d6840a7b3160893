use Rattle.pool.proofs.Truths.{histories_true}
use Rattle.pool.proofs.histories.histories_are_true.Goals as goal

pub returns : goal.returns
returns c = histories_true
