use Rattle.std.proofs.Common.{refl}
use Rattle.vaults.proofs.Parts.{none_sorted}
use Rattle.vaults.proofs.own_rows.OwnRows.new.Goals as goal

pub invariant_of-result : goal.invariant_of-result
invariant_of-result c = rw c.new.ensures.items record { in_order = none_sorted; counted = refl }
