use Rattle.hall.proofs.laws.Worlds.{two_worlds}
use Rattle.hall.proofs.run_laws.two_worlds.Goals as goal

pub returns : goal.returns
returns c = two_worlds
