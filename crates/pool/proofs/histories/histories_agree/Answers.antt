use Rattle.pool.proofs.Worlds.{histories_agree}
use Rattle.pool.proofs.histories.histories_agree.Goals as goal

pub returns : goal.returns
returns c = histories_agree
