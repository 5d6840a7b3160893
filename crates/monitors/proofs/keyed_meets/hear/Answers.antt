-- The entity's line is the old one and the part.
use Rattle.std.proofs.Common.{[], ◌∷◌, refl, ap, sym, ◌∙◌}
use Rattle.std.specs.Map.{keys_of}
use Rattle.std.proofs.lemmas.List.Elements.{Contains-append_right}
use Rattle.std.proofs.lemmas.Result.{err_from_is_err_and}
use Rattle.indexmap.specs.IndexMap.{IndexMap}
use Rattle.monitors.specs.MeetMonitor.{is_among}
use Rattle.monitors.proofs.ByKey.{heard, never_heard, still_known}
use Rattle.monitors.proofs.keyed_meets.hear.Goals as goal

pub returns-in_err-told : goal.returns-in_err-told
returns-in_err-told g c =
    let es = c.args.told.now.entries in
    let same = (rw c.in_err-told.was at c.entry.follows.holds-at-none).0 in
    let p = err_from_is_err_and c.from_residual.result c.from_residual.ensures.1 in
    rw (p.1, same) (record {
      ok = tt;
      keys = record { known = λ k there. Contains-append_right (c.args.who ∷ []) (keys_of es) k there };
      growth = never_heard g.K.PartialEq.eq g.met.K.Eq.laws g.met.K.Key.exact c.args.parts es c.requires.table c.args.part c.args.who (ap (is_among c.args.part) c.in_err-told.ensures.absent);
      unchanged = refl;
      table = c.requires.table;
    })

pub returns : goal.returns
returns g c =
    let es = c.args.told.now.entries in
    let line = c.or_insert-line.result.now in
    let is = rw c.in_ok-told.ensures.value at c.or_insert-line.ensures.value in
    let heard_it = heard g.K.PartialEq.eq g.met.K.Eq.laws g.met.K.Key.exact c.args.parts es c.requires.table c.args.part c.args.who c.none.result line c.hear.new.self c.hear.result c.none.ensures is c.requires.part c.hear.ensures.again c.hear.ensures.new in
    let written = ap (λ (m : IndexMap _ _ _). m.entries) (c.told-3-1.given.1 (sym c.in_ok-told.ensures.same_map)) ∙ c.in_ok-told.ensures.update.1 c.hear.new.self in
    rw written (record {
      ok = heard_it.0;
      keys = record { known = λ k there. still_known g.K.PartialEq.eq g.met.K.Eq.laws g.met.K.Key.exact es c.args.who c.hear.new.self k there };
      growth = tt;
      unchanged = tt;
      table = heard_it.1;
    })
