use Rattle.std.proofs.Common.{refl}
use Rattle.hall.proofs.lists.Listed.new.Goals as goal

pub returns : goal.returns
returns g c = refl
