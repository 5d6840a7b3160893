use Rattle.std.proofs.Common.{refl}
use Rattle.vaults.proofs.merges.to_everybody.Goals as goal

pub returns : goal.returns
returns c = refl
