use Rattle.hall.proofs.laws.RefusedFirst.{refused_first}
use Rattle.hall.proofs.run_laws.refusals_come_first.Goals as goal

pub returns : goal.returns
returns c = refused_first
