use Rattle.std.proofs.Common.{refl, subst}
use Rattle.std.specs.List.{AllByRecursion}
use Rattle.std.proofs.lemmas.Iterator.Consumers.{YieldsList-from_rest}
use Rattle.std.proofs.lemmas.List.Elements.{All-push}
use Rattle.hall.specs.Work.{SearchIsQuiet}
use Rattle.hall.specs.Kept.{IsIndexed}
use Rattle.hall.proofs.Picked.{nothing_left, picked_some}
use Rattle.hall.proofs.Rounds.{whole_round}
use Rattle.hall.proofs.halls.Hall.pick.Goals as goal

pub loop-who-preserved : goal.loop-who-preserved
loop-who-preserved c =
    All-push (λ e. AllByRecursion (SearchIsQuiet c.args.self.now e.0.now) e.1.now.keys) c.loop-who.yielded (c.in-Some.who, c.in-Some.numbers) c.loop-who.invariant
    c.in_default.ensures

pub returns-in-Some-pick_of : goal.returns-in-Some-pick_of
returns-in-Some-pick_of c =
    let (progress, left) = c.in-Some-pick_of.ensures in
    record { progress = progress; left = left; none = picked_some c.args.self.now c.in-Some-pick_of.step left }

pub returns-clause-none : goal.returns-clause-none
returns-clause-none c =
    let still =
    whole_round c.begin_at-place.result.0 c.self.inside.busy.entries {s = c.into_iter-who-iterator.result} (YieldsList-from_rest _ (cc)) (YieldsList-from_rest _ (cc)) (cc) (cc)
    (λ e. AllByRecursion (SearchIsQuiet c.args.self.now e.0) e.1.keys) c.loop-who.yielded _ _ c.loop-who.yielded_by _ c.in-None.is c.next.ensures.steps c.loop-who.invariant in
    (λ none. nothing_left c.self.inside.busy c.args.self.now (subst (IsIndexed c.self.inside.busy) c.self.view_is c.self.invariant) still, λ nothing. refl)
