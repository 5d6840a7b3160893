-- The letter is there and held.
use Rattle.search.proofs.Searching.{holds_letter}
use Rattle.search.proofs.stages.held_letter.Goals as goal

pub returns : goal.returns
returns c =
    let d = c.in-Running.running in
    holds_letter c.args.stage.now d c.args.number c.in-Some.letter.now c.in-Running.is c.in-Some.ensures.letter c.if-not-letter.false c.letter.ensures.by_number c.letter.ensures.sound.numbers
