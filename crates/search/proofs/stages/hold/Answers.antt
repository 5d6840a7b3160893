-- The letter that was taken is in hand.
use Rattle.std.proofs.Common.{sym}
use Rattle.scholten_core.proofs.Complete.{stand_by_number}
use Rattle.search.proofs.Searching.{holds_taken}
use Rattle.search.proofs.stages.hold.Goals as goal

pub returns : goal.returns
returns c =
    let e = c.take_letter-number.new.self in
    let takes = c.take_letter-number.ensures.takes in
    holds_taken c.args.stage.now c.in-Running.running e c.args.place c.take_letter-number.result.0 c.take_letter-number.result.1 c.in-Running.is takes (sym c.take_letter-number.ensures.letter) (stand_by_number e takes.sound)
