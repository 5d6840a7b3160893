use Rattle.pool.proofs.Sharing.{shares_add_up}
use Rattle.pool.proofs.histories.shares_add_up.Goals as goal

pub returns : goal.returns
returns c = shares_add_up
