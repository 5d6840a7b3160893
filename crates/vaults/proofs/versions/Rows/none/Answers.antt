use Rattle.std.proofs.Common.{refl}
use Rattle.vaults.proofs.Parts.{none_sorted}
use Rattle.vaults.proofs.versions.Rows.none.Goals as goal

pub invariant_of-result : goal.invariant_of-result
invariant_of-result c = record { in_order = none_sorted; start = refl; counted = refl }
