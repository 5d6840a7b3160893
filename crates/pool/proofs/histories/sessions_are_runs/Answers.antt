use Rattle.pool.proofs.Weaving.{sessions_are_runs}
use Rattle.pool.proofs.histories.sessions_are_runs.Goals as goal

pub returns : goal.returns
returns c = sessions_are_runs
