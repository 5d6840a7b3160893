use Rattle.std.proofs.Common.{[], refl, arith}
use Rattle.vaults.proofs.journals.Journal.new.Goals as goal

pub invariant_of-result : goal.invariant_of-result
invariant_of-result c = record {
  kept = ([], (tt, cc));
  counted = refl;
  owes = omega arith;
  has_room = omega arith;
}
