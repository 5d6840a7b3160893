use Rattle.std.proofs.Common.{refl}
use Rattle.vaults.specs.KeptOnce.{same_entries}
use Rattle.vaults.proofs.entries.Entries.new.Goals as goal

pub returns : goal.returns
returns c = λ entries kept. same_entries _ _ _ _ c.result-1.given.0.1 kept refl
