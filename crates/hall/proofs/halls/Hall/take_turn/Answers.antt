use Rattle.std.proofs.Common.{refl, sym, subst, List, ℕ}
use Rattle.hall.specs.Work.{SearchIsQuiet}
use Rattle.hall.proofs.Ended.{left_works, tells_working}
use Rattle.hall.proofs.Visited.{turn_of}
use Rattle.hall.proofs.halls.Hall.take_turn.Goals as goal

pub returns-in_default-pick-clause-next : goal.returns-in_default-pick-clause-next
returns-in_default-pick-clause-next c = (c.in-GoOn.is, c.pick.ensures.none.0 c.in_default-pick.is, refl, c.requires.empty, refl)

pub returns-clause-next : goal.returns-clause-next
returns-clause-next c =
    turn_of c.args.order c.args.most c.args.self.now c.search-who.result c.args.batch.now c.requires.empty c.work_on-none.result c.work_on-none.new.self c.work_on-none.new.batch
    c.work_on-none.ensures.works c.in-Some-next.next c.in-Some-next.is c.in-GoOn.is

pub returns-clause-ends : goal.returns-clause-ends
returns-clause-ends c =
    tells_working c.search-who.result c.args.self.now c.work_on-none.new.self c.args.ends.now c.work_on-none.new.ends
    (left_works c.args.self.now c.search-who.result (subst (λ (n : List ℕ × ℕ). SearchIsQuiet c.args.self.now n.0 n.1 → ⊥) (sym c.search-who.ensures) c.in-Some.ensures.left)) c.work_on-none.ensures.ends
