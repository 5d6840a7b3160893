use Rattle.scholten_core.proofs.Standing.{number_found, number_there}
use Rattle.scholten_core.proofs.letter_tables.LetterTable.place.Goals as goal

pub returns-then-stands_at : goal.returns-then-stands_at
returns-then-stands_at g c =
    rw (← c.self.view_is) (number_there c.args.number c.self.inside.letters.items c.self.inside.hand (rw (← c.stands_at.ensures) c.if-stands_at.true))

pub unwrap-requires : goal.unwrap-requires
unwrap-requires g c =
    let held = rw (← c.self.view_is) at c.requires in
    number_found c.self.inside.sent c.self.inside.letters.items c.self.invariant.numbers c.args.number held c.place_near.result c.place_near.ensures

pub returns : goal.returns
returns g c = rw (← c.self.view_is) (rw c.unwrap.ensures at c.place_near.ensures)
