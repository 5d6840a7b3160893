use Rattle.std.proofs.Common.{◌∙◌, ap, arith, option_copied}
use Rattle.scholten_core.proofs.Standing.{key_within, letter_absent, letter_there}
use Rattle.scholten_core.proofs.letter_tables.LetterTable.get.Goals as goal

pub returns-in_err-at : goal.returns-in_err-at
returns-in_err-at g c =
    rw (← c.self.view_is) (ap option_copied c.from_residual.ensures ∙ letter_absent c.self.inside.sent c.args.number c.self.inside.letters.items c.self.invariant.numbers c.in_err-at.ensures)

pub index-requires : goal.index-requires
index-requires g c = omega (arith, key_within c.args.number c.self.inside.letters.items c.in_ok-at.at c.in_ok-at.ensures, c.self.inside.letters.ok.0)

pub returns : goal.returns
returns g c =
    rw (← c.self.view_is) (c.letter.ensures ∙ letter_there c.self.inside.sent c.args.number c.in_ok-at.at c.self.inside.letters.items c.index.result.now c.self.invariant.numbers c.in_ok-at.ensures c.index.ensures)
