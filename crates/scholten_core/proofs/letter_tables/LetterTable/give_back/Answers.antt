use Rattle.std.proofs.Common.{refl}
use Rattle.scholten_core.proofs.letter_tables.LetterTable.give_back.Goals as goal

pub invariant_of-self : goal.invariant_of-self
invariant_of-self g c = rw c.shrink_to_fit.ensures.items c.self.invariant

pub returns : goal.returns
returns g c = rw (c.shrink_to_fit.ensures.items, ← c.self.view_is) (record { letters = refl; sent = refl })
