use Rattle.std.proofs.Common.{◌-◌, ap, ◌∙◌, arith, refl, sym}
use Rattle.std.proofs.lemmas.Option.{slice_get_read}
use Rattle.scholten_core.proofs.Standing.{one, count-back, waits_here}
use Rattle.scholten_core.proofs.letter_tables.seek_back.Goals as goal

pub returns-then-left-eq0 : goal.returns-then-left-eq0
returns-then-left-eq0 g c =
    let waits = ap one (sym c.waits.ensures ∙ c.if-not-waits.false) in
    let next = count-back c.args.letters.now.items c.loop-at.at (c.loop-at.at - 1) c.index.result.now (omega arith) (slice_get_read c.args.letters.now.items _ (c.loop-at.at - 1) c.index.result.now refl (omega (arith, c.loop-at.invariant.within)) c.index.ensures) in
    waits_here c.args.letters.now.items (c.loop-at.at - 1) _ c.index.result.now (slice_get_read c.args.letters.now.items _ (c.loop-at.at - 1) c.index.result.now refl (omega (arith, c.loop-at.invariant.within)) c.index.ensures) (sym c.waits.ensures ∙ c.if-not-waits.false) (omega (arith, c.loop-at.invariant.follow, next, waits, c.if-left-eq0.true))

pub loop-at-preserved-then-not-waits : goal.loop-at-preserved-then-not-waits
loop-at-preserved-then-not-waits g c =
    let passes = ap one (sym c.waits.ensures ∙ c.if-not-waits.true) in
    let next = count-back c.args.letters.now.items c.loop-at.at (c.loop-at.at - 1) c.index.result.now (omega arith) (slice_get_read c.args.letters.now.items _ (c.loop-at.at - 1) c.index.result.now refl (omega (arith, c.loop-at.invariant.within)) c.index.ensures) in
    record {
      follow = omega (arith, c.loop-at.invariant.follow, next, passes);
      there = omega (arith, c.loop-at.invariant.there, next, passes);
      within = omega (arith, c.loop-at.invariant.within);
    }

pub loop-at-preserved : goal.loop-at-preserved
loop-at-preserved g c =
    let waits = ap one (sym c.waits.ensures ∙ c.if-not-waits.false) in
    let next = count-back c.args.letters.now.items c.loop-at.at (c.loop-at.at - 1) c.index.result.now (omega arith) (slice_get_read c.args.letters.now.items _ (c.loop-at.at - 1) c.index.result.now refl (omega (arith, c.loop-at.invariant.within)) c.index.ensures) in
    record {
      follow = omega (arith, c.loop-at.invariant.follow, next, waits, c.if-left-eq0.false);
      there = omega (arith, c.loop-at.invariant.there, next, waits, c.if-left-eq0.false);
      within = omega (arith, c.loop-at.invariant.within);
    }
