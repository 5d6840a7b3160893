use Rattle.pool.proofs.GoOn.{go_on}
use Rattle.pool.proofs.histories.histories_go_on.Goals as goal

pub returns : goal.returns
returns c = go_on
