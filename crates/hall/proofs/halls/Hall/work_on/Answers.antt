use Rattle.std.proofs.Common.{rules, ◌≡◌, ◌∙◌, ap, refl, sym, subst, subst₂, ◌++◌, List, Option, Some, None, ℕ, Bool, true, false}
use Rattle.std.proofs.lemmas.List.{append-nil}
use Rattle.hall.specs.Batches.{BatchState, IsEmpty}
use Rattle.hall.specs.declared.orders.Next.{Next}
use Rattle.hall.specs.Kept.{IsOver}
use Rattle.hall.specs.Hall.{Running, GoesOnAt, search_at}
use Rattle.hall.specs.Work.{WorksThrough}
use Rattle.hall.proofs.Polled.{none_there}
use Rattle.hall.proofs.Unsettled.{unsettled_before}
use Rattle.hall.proofs.Carrying.{left_as}
use Rattle.hall.proofs.Continued.{continues_worked}
use Rattle.hall.proofs.Ended.{TellsMore, tells_there, told_of}
use Rattle.hall.proofs.halls.Hall.work_on.Goals as goal
use Rattle.hall.proofs.halls.Hall.work_on.Goals.{In-Ok}

pub lend-lent-requires-clause-callable : goal.lend-lent-requires-clause-callable
lend-lent-requires-clause-callable c = λ lent had same. search (rules, same, c.requires)

pub returns-in_default-clause-works : goal.returns-in_default-clause-works
returns-in_default-clause-works c =
    subst (λ (o : Option Running). GoesOnAt c.args.self.now c.args.who.now c.args.number o
    ((◌≡◌ {A = ℕ × Option Next} (0, None) (0, None)) × IsEmpty c.let_go.new.self × (c.let_go.new.self.room ≡ c.args.batch.now.room))
    (λ s t. WorksThrough c.args.order c.args.most (c.args.who.now, c.args.number) s c.args.batch.now 0 None t c.let_go.new.self) c.lend-lent.new.self)
    (sym (none_there c.args.self.now c.args.who.now c.args.number c.in_default.field-0 c.in_default.ensures.nowhere))
    ((refl, c.let_go.ensures.empty, c.let_go.ensures.room ∙ ap (λ (b : BatchState). b.room) c.in_default.ensures.same), c.in_default.ensures.unchanged)

did : (c : In-Ok) → WorksThrough c.args.order c.args.most (c.args.who.now, c.args.number) c.in-Ok.ensures.lent.lent.now.search c.in-Ok.ensures.lent.beside.now c.in-Ok.finished c.in-Ok.next c.in-Ok.ensures.lent.left.now.search c.in-Ok.ensures.lent.kept.now
did c = search (rules, c.in-Ok.ensures.lent.did)

did_so : (c : In-Ok) → WorksThrough c.args.order c.args.most (c.args.who.now, c.args.number) c.in-Ok.ensures.lent.lent.now.search c.args.batch.now c.in-Ok.finished c.in-Ok.next c.in-Ok.ensures.lent.left.now.search c.lend-lent.new.beside
did_so c =
    let lent = c.in-Ok.ensures.lent in
    subst₂ (λ (had has : BatchState). WorksThrough c.args.order c.args.most (c.args.who.now, c.args.number) lent.lent.now.search had c.in-Ok.finished c.in-Ok.next lent.left.now.search has) lent.shows.0 lent.shows.1 (did c)

works : (c : In-Ok) →
    GoesOnAt c.args.self.now c.args.who.now c.args.number (search_at c.args.self.now c.args.who.now c.args.number)
    ((◌≡◌ {A = ℕ × Option Next} (c.in-Ok.finished, c.in-Ok.next) (0, None)) × IsEmpty c.lend-lent.new.beside × (c.lend-lent.new.beside.room ≡ c.args.batch.now.room))
    (λ s t. WorksThrough c.args.order c.args.most (c.args.who.now, c.args.number) s c.args.batch.now c.in-Ok.finished c.in-Ok.next t c.lend-lent.new.beside) c.lend-lent.new.self
works c =
    let lent = c.in-Ok.ensures.lent in
    subst (λ (o : Option Running). GoesOnAt c.args.self.now c.args.who.now c.args.number o
    ((◌≡◌ {A = ℕ × Option Next} (c.in-Ok.finished, c.in-Ok.next) (0, None)) × IsEmpty c.lend-lent.new.beside × (c.lend-lent.new.beside.room ≡ c.args.batch.now.room))
    (λ s t. WorksThrough c.args.order c.args.most (c.args.who.now, c.args.number) s c.args.batch.now c.in-Ok.finished c.in-Ok.next t c.lend-lent.new.beside) c.lend-lent.new.self)
    (sym lent.there)
    (lent.left.now.search, did_so c, left_as c.args.self.now c.args.who.now c.args.number lent.lent.now lent.there lent.left.now lent.opened c.lend-lent.new.self lent.after)

-- what is told of it, by whether it is over
tells : (c : In-Ok) (over : Bool) → c.in-Ok.over ≡ over → (later : List (List ℕ × ℕ)) → later ≡ c.args.ends.now ++ told_of over (c.args.who.now, c.args.number) →
    TellsMore (Some (c.args.who.now, c.args.number)) c.args.self.now c.lend-lent.new.self c.args.ends.now later
tells c over is later more =
    let lent = c.in-Ok.ensures.lent in
    let name : List ℕ × ℕ = (c.args.who.now, c.args.number) in
    let goes = continues_worked lent.lent.now lent.left.now c.args.order c.args.most name c.args.batch.now c.in-Ok.finished c.in-Ok.next c.lend-lent.new.beside (did_so c) lent.opened in
    tells_there c.args.self.now c.lend-lent.new.self c.args.who.now c.args.number lent.lent.now lent.there lent.left.now
    (unsettled_before lent.lent.now.search lent.left.now.search goes.settles) over (subst (IsOver lent.left.now.search) is lent.ended) lent.after c.args.ends.now later more

pub returns-then-over-clause-works : goal.returns-then-over-clause-works
returns-then-over-clause-works c = works (goal.at.returns-then-over-clause-works c).In-Ok

pub returns-then-over-clause-ends : goal.returns-then-over-clause-ends
returns-then-over-clause-ends c = tells (goal.at.returns-then-over-clause-ends c).In-Ok true c.if-over.true c.put.new.self c.put.ensures

pub returns-else-over-clause-works : goal.returns-else-over-clause-works
returns-else-over-clause-works c = works (goal.at.returns-else-over-clause-works c).In-Ok

pub returns-else-over-clause-ends : goal.returns-else-over-clause-ends
returns-else-over-clause-ends c = tells (goal.at.returns-else-over-clause-ends c).In-Ok false c.if-over.false c.args.ends.now (sym (append-nil c.args.ends.now))
