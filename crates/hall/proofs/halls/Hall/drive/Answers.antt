use Rattle.std.proofs.Common.{rules, sym, subst}
use Rattle.hall.specs.Hall.{CarriesOut, IsCarriedOn, known, told_as}
use Rattle.hall.specs.declared.calls.requests.Request.TheVariants.{Poll}
use Rattle.hall.specs.declared.calls.replies.Reply.TheVariants.{Answered, Refused}
use Rattle.hall.specs.{Run.waits, Answers.IsToldOver}
use Rattle.hall.proofs.Carrying.{drives_as, drives_quiet, nowhere_driven}
use Rattle.hall.proofs.halls.Hall.drive.Goals as goal
use Rattle.hall.proofs.halls.Hall.drive.Goals.{In-Ok}

did : (c : In-Ok) → IsCarriedOn c.in-Ok.ensures.lent.lent.now.search c.in-Ok.ensures.lent.left.now.search
did c = search (rules, c.in-Ok.ensures.lent.did)

tells : (c : In-Ok) → IsToldOver (known c.in-Ok.ensures.lent.left.now.search) Poll (told_as Answered c.in-Ok.told)
tells c = search (rules, c.in-Ok.ensures.lent.did)

pub returns-in-Ok-clause-driven : goal.returns-in-Ok-clause-driven
returns-in-Ok-clause-driven c =
    let lent = c.in-Ok.ensures.lent in
    drives_as c.args.self.now c.args.who c.args.number lent.lent.now lent.there lent.left.now lent.opened c.lend.new.self lent.after (did c) c.in-Ok.told (tells c)

pub returns-in-Ok-clause-quiet : goal.returns-in-Ok-clause-quiet
returns-in-Ok-clause-quiet c =
    let lent = c.in-Ok.ensures.lent in
    drives_quiet c.args.self.now c.args.who c.args.number lent.lent.now lent.there lent.left.now lent.opened c.lend.new.self lent.after (did c).quiet

pub returns-in-Err-clause-driven : goal.returns-in-Err-clause-driven
returns-in-Err-clause-driven c =
    subst (CarriesOut c.args.self.now c.args.who (waits c.args.number) (Refused c.in-Err.nowhere)) (sym c.in-Err.ensures.unchanged)
    (nowhere_driven c.args.self.now c.args.who c.args.number c.in-Err.nowhere c.in-Err.ensures.nowhere)
