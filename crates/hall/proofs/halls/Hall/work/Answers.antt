use Rattle.std.proofs.Common.{sym, option_map}
use Rattle.hall.specs.Batches.{name_of}
use Rattle.hall.proofs.Visited.{visit_of_none, visit_of_one, visit_of_two}
use Rattle.hall.proofs.Ended.{tells_all, tells_both}
use Rattle.hall.proofs.halls.Hall.work.Goals as goal

pub returns-in_default-clause-visit : goal.returns-in_default-clause-visit
returns-in_default-clause-visit c =
    visit_of_none c.args.order c.args.most c.args.self.now c.args.batch.now (c.search.ensures.empty c.in_default.is) c.take_turn-next.result c.take_turn-next.new.self c.take_turn-next.new.batch
    c.take_turn-next.ensures.next

pub returns-in-Some-next-clause-visit : goal.returns-in-Some-next-clause-visit
returns-in-Some-next-clause-visit c =
    visit_of_one c.args.order c.args.most c.args.self.now c.args.batch.now _ (sym c.in-Some.ensures.is) c.work_on-finished.result c.work_on-finished.new.self c.work_on-finished.new.batch
    c.work_on-finished.ensures.works c.in-Some-next.next c.in-Some-next.is

pub returns-in-None-clause-visit : goal.returns-in-None-clause-visit
returns-in-None-clause-visit c =
    visit_of_two c.args.order c.args.most c.args.self.now c.args.batch.now _ (sym c.in-Some.ensures.is) c.work_on-finished.result c.work_on-finished.new.self c.work_on-finished.new.batch
    c.work_on-finished.ensures.works c.in-None.is c.take_turn-next-in-None.result c.take_turn-next-in-None.new.self c.take_turn-next-in-None.new.batch c.take_turn-next-in-None.ensures.next

pub returns-in-None-clause-ends : goal.returns-in-None-clause-ends
returns-in-None-clause-ends c =
    tells_all (option_map name_of c.args.batch.now.of) c.args.self.now c.take_turn-next-in-None.new.self c.args.ends.now c.take_turn-next-in-None.new.ends c.requires.told
    (tells_both (option_map name_of c.args.batch.now.of) c.args.self.now c.work_on-finished.new.self c.take_turn-next-in-None.new.self c.args.ends.now
    c.work_on-finished.new.ends c.take_turn-next-in-None.new.ends (rw (sym c.in-Some.ensures.is) c.work_on-finished.ensures.ends) c.take_turn-next-in-None.ensures.ends)
