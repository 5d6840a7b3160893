use Rattle.pool.proofs.Deciding.{reads_admit}
use Rattle.pool.proofs.histories.reads_are_told.Goals as goal

pub returns : goal.returns
returns c = reads_admit
