use Rattle.std.proofs.Common.{◌∙◌, ℕ, ap, arith, is_some, sym}
use Rattle.scholten_core.proofs.Standing.{key_within, letter_there}
use Rattle.scholten_core.proofs.letter_tables.LetterTable.letter_there.Goals as goal

pub index-requires : goal.index-requires
index-requires g c =
    let there = rw (← c.self.view_is) at c.requires in
    omega (arith, key_within there.0 c.self.inside.letters.items c.args.at there.1, c.self.inside.letters.ok.0)

pub full_letter-requires : goal.full_letter-requires
full_letter-requires g c =
    let there = rw (← c.self.view_is) at c.requires in
    ap is_some (letter_there c.self.inside.sent there.0 c.args.at c.self.inside.letters.items c.index.result.now c.self.invariant.numbers there.1 c.index.ensures) ∙ there.2

pub returns : goal.returns
returns g c =
    rw (← c.self.view_is) (λ (number : ℕ) stands. sym (c.full_letter.ensures ∙ letter_there c.self.inside.sent number c.args.at c.self.inside.letters.items c.index.result.now c.self.invariant.numbers stands c.index.ensures))
