use Rattle.std.proofs.Common.{refl}
use Rattle.quotas.proofs.limits.Limits.usual.Goals as goal

pub returns : goal.returns
returns c = refl
