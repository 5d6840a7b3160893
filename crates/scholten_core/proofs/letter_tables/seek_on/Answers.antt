use Rattle.std.proofs.Common.{ap, ◌∙◌, arith, sym}
use Rattle.std.proofs.lemmas.Option.{slice_get_read}
use Rattle.scholten_core.proofs.Standing.{one, count-next, waits_here}
use Rattle.scholten_core.proofs.letter_tables.seek_on.Goals as goal

pub returns-then-left-eq0 : goal.returns-then-left-eq0
returns-then-left-eq0 g c =
    waits_here c.args.letters.now.items c.loop-at.at c.args.place c.index.result.now (slice_get_read c.args.letters.now.items _ c.loop-at.at c.index.result.now c.args.letters.now.ok.0 (rw c.len-at-end.ensures at c.loop-at-test.true) c.index.ensures) (sym c.waits.ensures ∙ c.if-not-waits.false) (omega (arith, c.loop-at.invariant.0, c.if-left-eq0.true))

pub loop-at-preserved-then-not-waits : goal.loop-at-preserved-then-not-waits
loop-at-preserved-then-not-waits g c =
    let passes = ap one (sym c.waits.ensures ∙ c.if-not-waits.true) in
    let next = count-next c.args.letters.now.items c.loop-at.at c.index.result.now (slice_get_read c.args.letters.now.items _ c.loop-at.at c.index.result.now c.args.letters.now.ok.0 (rw c.len-at-end.ensures at c.loop-at-test.true) c.index.ensures) in
    (omega (arith, c.loop-at.invariant.0, next, passes), c.loop-at.invariant.1)

pub loop-at-preserved : goal.loop-at-preserved
loop-at-preserved g c =
    let waits = ap one (sym c.waits.ensures ∙ c.if-not-waits.false) in
    let next = count-next c.args.letters.now.items c.loop-at.at c.index.result.now (slice_get_read c.args.letters.now.items _ c.loop-at.at c.index.result.now c.args.letters.now.ok.0 (rw c.len-at-end.ensures at c.loop-at-test.true) c.index.ensures) in
    (omega (arith, c.loop-at.invariant.0, next, waits, c.if-left-eq0.false), c.loop-at.invariant.1)
