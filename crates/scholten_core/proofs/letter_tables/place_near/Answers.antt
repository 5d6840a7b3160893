use Rattle.std.proofs.Common.{sym, ◌∙◌}
use Rattle.scholten_core.proofs.Standing.{number_there}
use Rattle.scholten_core.proofs.letter_tables.place_near.Goals as goal

pub returns-then-stands_at : goal.returns-then-stands_at
returns-then-stands_at g c = number_there c.args.number c.args.letters.now.items _ (sym c.stands_at.ensures ∙ c.if-stands_at.true)
