use Rattle.hall.proofs.laws.Worlds.{scripts_isolated}
use Rattle.hall.proofs.run_laws.scripts_are_isolated.Goals as goal

pub returns : goal.returns
returns c = scripts_isolated
