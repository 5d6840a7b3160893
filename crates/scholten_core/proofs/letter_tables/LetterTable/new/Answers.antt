use Rattle.std.proofs.Common.{length, refl, ap, arith}
use Rattle.std.proofs.lemmas.Result.{err_from_is_err_and}
use Rattle.scholten_core.specs.LetterTable.{standing}
use Rattle.scholten_core.proofs.letter_tables.LetterTable.new.Goals as goal

pub returns-in_err-with_capacity : goal.returns-in_err-with_capacity
returns-in_err-with_capacity g c =
    let p = err_from_is_err_and c.from_residual.result c.from_residual.ensures.1 in
    rw p.1 (record { sent = tt; letters = tt; room = tt })

pub invariant_of-result : goal.invariant_of-result
invariant_of-result g c =
    rw c.in_ok-with_capacity.ensures.items (record {
      numbers = omega arith;
      waiting = refl;
      gone = refl;
      before = refl;
      all = refl;
      within_first = omega arith;
      within_last = omega arith;
    })

pub returns : goal.returns
returns g c = record {
  sent = refl;
  letters = ap standing c.in_ok-with_capacity.ensures.items;
  room = omega (arith, c.in_ok-with_capacity.ensures.capacity, ap length c.in_ok-with_capacity.ensures.items, c.in_ok-with_capacity.field-0.ok.0);
}
