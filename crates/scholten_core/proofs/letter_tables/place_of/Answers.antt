use Rattle.std.proofs.Common.{sym, ◌∙◌}
use Rattle.scholten_core.proofs.Standing.{number_there}
use Rattle.scholten_core.proofs.letter_tables.place_of.Goals as goal

pub returns-then-stands_at : goal.returns-then-stands_at
returns-then-stands_at g c = number_there c.args.number c.args.letters.now.items c.args.hand (sym c.stands_at.ensures ∙ c.if-stands_at.true)
