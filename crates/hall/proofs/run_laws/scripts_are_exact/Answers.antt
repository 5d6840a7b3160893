use Rattle.hall.proofs.laws.ExactRuns.{scripts_exact}
use Rattle.hall.proofs.run_laws.scripts_are_exact.Goals as goal

pub returns : goal.returns
returns c = scripts_exact
