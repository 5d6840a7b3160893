use Rattle.std.proofs.Common.{refl, ap, ◌∙◌, arith}
use Rattle.scholten_core.specs.LetterTable.{standing}
use Rattle.scholten_core.proofs.letter_tables.LetterTable.restart.Goals as goal

pub invariant_of-self : goal.invariant_of-self
invariant_of-self g c =
    rw (c.shrink_to.ensures.items ∙ c.clear.ensures.items) (record {
      numbers = omega arith;
      waiting = refl;
      gone = refl;
      before = refl;
      all = refl;
      within_first = omega arith;
      within_last = omega arith;
    })

pub returns : goal.returns
returns g c =
    rw (← c.self.view_is) (record {
      sent = refl;
      letters = ap standing (c.shrink_to.ensures.items ∙ c.clear.ensures.items);
      room = λ some. omega (arith, some, c.clear.ensures.capacity, c.clear.ensures.len, c.shrink_to.ensures.len, c.shrink_to.ensures.lower_bound, c.room_kept-kept.ensures);
    })
