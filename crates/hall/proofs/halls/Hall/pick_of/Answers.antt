use Rattle.std.proofs.lemmas.Iterator.{YieldsList-from_slice}
use Rattle.std.proofs.lemmas.List.Elements.{All-push}
use Rattle.hall.specs.Work.{SearchIsQuiet}
use Rattle.hall.proofs.Picked.{none_still, one_still, picked}
use Rattle.hall.proofs.Rounds.{whole_round}
use Rattle.hall.proofs.halls.Hall.pick_of.Goals as goal

pub loop-number-preserved-in_default : goal.loop-number-preserved-in_default
loop-number-preserved-in_default c =
    All-push (λ k. SearchIsQuiet c.args.self.now c.args.who k.now) c.loop-number.yielded c.in-Some.field-0 c.loop-number.invariant
    (none_still c.args.self.now c.args.who c.in-Some.field-0.now c.in_default.ensures)

pub loop-number-preserved : goal.loop-number-preserved
loop-number-preserved c =
    All-push (λ k. SearchIsQuiet c.args.self.now c.args.who k.now) c.loop-number.yielded c.in-Some.field-0 c.loop-number.invariant
    (one_still c.args.self.now c.args.who c.in-Some.field-0.now c.in-Some-search.search.now c.in-Some-search.ensures c.in_default-next_step.ensures)

pub returns-in-Some-next_step : goal.returns-in-Some-next_step
returns-in-Some-next_step c =
    picked c.args.self.now c.args.who c.in-Some.field-0.now c.in-Some-search.search.now c.in-Some-next_step.step
    c.in-Some-search.ensures c.in-Some-next_step.ensures

pub returns : goal.returns
returns c =
    whole_round c.begin_at-place.result.0 c.args.numbers.now.keys {s = c.into_iter-number-iterator.result} (YieldsList-from_slice _ (cc)) (YieldsList-from_slice _ (cc)) (cc) (cc)
    (SearchIsQuiet c.args.self.now c.args.who) c.loop-number.yielded _ _ c.loop-number.yielded_by _ c.in-None.is c.next.ensures.steps c.loop-number.invariant
