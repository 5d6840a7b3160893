use Rattle.std.proofs.Common.{rules, ◌≡◌, ◌∙◌, ◌<◌, length, ap, sym, subst, slice_get, Ok, Option, None, IfOk, OnOk, IsSomeAnd, refl, inr}
use Rattle.std.specs.{Prelude.MatchOption, Arc.arc_value}
use Rattle.search.specs.{declared.queries.Task.Task, Stage.waiting_in, Finish.Takes, Search.IsSoundStage}
use Rattle.hall.specs.declared.calls.steps.Step.TheVariants.{Take}
use Rattle.hall.specs.declared.calls.steps.Stepped.TheVariants.{Gone}
use Rattle.hall.specs.{Hall.Running, Work.IsTaken, Kept.Continues}
use Rattle.hall.proofs.Polled.{none_there}
use Rattle.hall.proofs.Carrying.{gone, none_taken, job_taken, left_so}
use Rattle.hall.proofs.halls.Hall.take.Goals as goal
use Rattle.hall.proofs.halls.Hall.take.Goals.{In-Ok}

-- what becomes of the search that is lent
abbrev Takes_it : In-Ok → Option Task → Type 0
Takes_it c o =
    let s = c.in-Ok.ensures.lent.lent.now.search in
    let t = c.in-Ok.ensures.lent.left.now.search in
    MatchOption o ((slice_get (waiting_in s.stage) c.args.place ≡ None) × (t ≡ s)) (λ task. Takes s t c.args.place task.letter task.need × (arc_value task.snap ≡ s.snapshot))

took : (c : In-Ok) → IfOk c.in-Ok.taken (Takes_it c)
took c = search (rules, c.in-Ok.ensures.lent.did)

sound : (c : In-Ok) → OnOk c.in-Ok.taken (IsSoundStage c.in-Ok.ensures.lent.left.now.search.stage)
sound c = search (rules, c.in-Ok.ensures.lent.did)

goes : (c : In-Ok) → Continues c.in-Ok.ensures.lent.lent.now c.in-Ok.ensures.lent.left.now
goes c = search (rules, c.in-Ok.ensures.lent.did)

pub returns-in_default-clause-taken : goal.returns-in_default-clause-taken
returns-in_default-clause-taken c =
    let none = none_there c.args.self.now c.args.who c.args.number c.in_default.field-0 c.in_default.ensures.nowhere in
    subst (IsTaken c.args.self.now c.args.who c.args.number c.args.place None) (sym c.in_default.ensures.unchanged)
    (Gone, inr refl, gone c.args.self.now c.args.who c.args.number (Take c.args.who c.args.number c.args.place) refl refl none)

pub returns-in-Ok-Some-clause-taken : goal.returns-in-Ok-Some-clause-taken
returns-in-Ok-Some-clause-taken c =
    let lent = c.in-Ok.ensures.lent in
    let d = (goal.at.returns-in-Ok-Some-clause-taken c).In-Ok in
    let is = c.in-Ok-Some.is ∙ ap Ok c.in-Ok-Some.field-0-is in
    let (takes, reads) = subst (λ o. IfOk o (Takes_it d)) is (took d) in
    let runs = subst (λ o. OnOk o (IsSoundStage lent.left.now.search.stage)) is (sound d) in
    job_taken c.args.self.now c.args.who c.args.number lent.lent.now lent.there lent.left.now lent.opened c.lend.new.self lent.after c.args.place (goes d).settles runs _ refl refl reads takes

pub returns-in-Ok-None-clause-taken : goal.returns-in-Ok-None-clause-taken
returns-in-Ok-None-clause-taken c =
    let lent = c.in-Ok.ensures.lent in
    let d = (goal.at.returns-in-Ok-None-clause-taken c).In-Ok in
    let is = c.in-Ok-None.is ∙ ap Ok c.in-Ok-None.field-0-is in
    let (none, same) = subst (λ o. IfOk o (Takes_it d)) is (took d) in
    let runs = subst (λ o. OnOk o (IsSoundStage lent.left.now.search.stage)) is (sound d) in
    none_taken c.args.self.now c.args.who c.args.number lent.lent.now lent.there lent.left.now lent.opened c.lend.new.self lent.after c.args.place (goes d).settles runs none same

pub returns-in-Err-clause-unchanged : goal.returns-in-Err-clause-unchanged
returns-in-Err-clause-unchanged c =
    let lent = c.in-Ok.ensures.lent in
    let same : lent.left.now ≡ lent.lent.now = search (rules, c.in-Err.is, lent.did) in
    left_so c.args.self.now c.args.who c.args.number lent.lent.now lent.there lent.left.now lent.opened c.lend.new.self lent.after (ap (λ (r : Running). r.search) same)

pub returns-in-Err-clause-waits : goal.returns-in-Err-clause-waits
returns-in-Err-clause-waits c =
    let lent = c.in-Ok.ensures.lent in
    let waits : c.args.place < length (waiting_in lent.lent.now.search.stage) = search (rules, c.in-Err.is, lent.did) in
    subst (λ (o : Option Running). IsSomeAnd o (λ r. c.args.place < length (waiting_in r.search.stage))) (sym lent.there) waits
