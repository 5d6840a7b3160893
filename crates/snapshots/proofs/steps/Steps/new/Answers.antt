use Rattle.std.proofs.Common.{refl}
use Rattle.snapshots.proofs.steps.Steps.new.Goals as goal

pub returns : goal.returns
returns g c = refl
