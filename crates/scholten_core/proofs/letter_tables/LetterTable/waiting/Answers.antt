use Rattle.std.proofs.Common.{◌∙◌, sym}
use Rattle.scholten_core.proofs.Standing.{length-waiting}
use Rattle.scholten_core.proofs.letter_tables.LetterTable.waiting.Goals as goal

pub returns : goal.returns
returns g c = rw (← c.self.view_is) (c.self.invariant.waiting ∙ sym (length-waiting c.self.inside.letters.items))
