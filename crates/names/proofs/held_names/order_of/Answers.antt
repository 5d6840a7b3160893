use Rattle.std.proofs.Common.{◌≡◌, ◌∙◌, ◌+◌, ◌*◌, subst, arith}
use Rattle.names.proofs.Words.{AreAlike, word_decides, word_goes_on, whole_alike, ended_alike}
use Rattle.names.proofs.held_names.order_of.Goals as goal

pub returns-then-word-other : goal.returns-then-word-other
returns-then-word-other c =
    c.cmp.ensures
    ∙ word_decides c.args.cells.now c.args.others.now c.told-cells c.told-others c.fits-cells c.fits-others
    (8 * c.loop-place.place) _ _
    (omega arith) c.loop-place.invariant c.word_at-word.ensures c.word_at-other.ensures c.if-word-other.true

pub returns-then-cells-start-eq0 : goal.returns-then-cells-start-eq0
returns-then-cells-start-eq0 c =
    ended_alike c.args.cells.now c.args.others.now c.told-cells c.told-others c.fits-cells c.fits-others
    (8 * c.loop-place.place + 7) c.requires.cells c.requires.others
    (subst (AreAlike c.args.cells.now c.args.others.now) (omega arith)
    (word_goes_on c.args.cells.now c.args.others.now c.told-cells c.told-others c.fits-cells c.fits-others
    (8 * c.loop-place.place) _ _ (omega arith) c.loop-place.invariant
    c.word_at-word.ensures c.word_at-other.ensures c.if-word-other.false)) c.if-cells-start-eq0.true

pub loop-place-preserved : goal.loop-place-preserved
loop-place-preserved c =
    let next : 8 * c.loop-place.place + 8 ≡ 8 * (c.loop-place.place + 1) = omega arith in
    subst (AreAlike c.args.cells.now c.args.others.now) next
    (word_goes_on c.args.cells.now c.args.others.now c.told-cells c.told-others c.fits-cells c.fits-others
    (8 * c.loop-place.place) _ _ (omega arith) c.loop-place.invariant
    c.word_at-word.ensures c.word_at-other.ensures c.if-word-other.false)

pub returns : goal.returns
returns c =
    let all : 8 * c.loop-place.place ≡ 64 = omega arith in
    whole_alike c.args.cells.now c.args.others.now c.told-cells c.told-others c.fits-cells c.fits-others
    (subst (AreAlike c.args.cells.now c.args.others.now) all c.loop-place.invariant)
