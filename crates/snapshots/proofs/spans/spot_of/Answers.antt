use Rattle.std.proofs.Common.{ℕ, ◌≡◌, ◌∙◌, ◌+◌, ◌-◌, ◌/◌, sym, ap, subst, length, arith, Option, Some, unwrap_or}
use Rattle.std.specs.List.{slice_get}
use Rattle.snapshots.specs.Span.{is_cut}
use Rattle.snapshots.specs.Blocks.{starts_with, BeginsAt}
use Rattle.snapshots.proofs.Through.{block_own}
use Rattle.snapshots.proofs.spans.spot_of.Goals as goal

some_same : {X : Type 0} (x y : X) → Some x ≡ Some y → x ≡ y
some_same {X} x y same = ap (λ (o : Option X). unwrap_or o x) same

pub begins_before-requires : goal.begins_before-requires
begins_before-requires c =
    block_own c.args.role.now.owner c.args.rows.now (c.loop-low.low + (c.loop-low.high - c.loop-low.low) / 2) c.block.result.now c.block.ensures.block c.requires.own

pub loop-low-preserved-then-begins_before : goal.loop-low-preserved-then-begins_before
loop-low-preserved-then-begins_before c = record {
  in_turn = omega arith;
  within = omega (arith, c.loop-low-test.true, c.loop-low.invariant.within);
  before = c.loop-low.invariant.before;
  there = λ b more at.
      ap (starts_with (is_cut c.args.cut c.args.role.now)) (sym (some_same _ _ (sym c.block.ensures.block ∙ at)))
      ∙ sym c.begins_before.ensures ∙ c.if-begins_before.true;
}

pub loop-low-preserved : goal.loop-low-preserved
loop-low-preserved c = record {
  in_turn = omega (arith, c.loop-low-test.true);
  within = c.loop-low.invariant.within;
  before = λ before b next at.
      let here : c.loop-low.low + (c.loop-low.high - c.loop-low.low) / 2 ≡ before = omega (arith, next) in
      let is : c.block.result.now ≡ b = some_same _ _ (sym c.block.ensures.block ∙ ap (slice_get c.args.rows.now) here ∙ at) in (
        omega (arith, c.block.ensures.some, ap length is),
        ap (starts_with (is_cut c.args.cut c.args.role.now)) (sym is) ∙ sym c.begins_before.ensures ∙ c.if-begins_before.false,
      );
  there = c.loop-low.invariant.there;
}

pub returns : goal.returns
returns c =
    let same : c.loop-low.high ≡ c.loop-low.low = omega (arith, c.loop-low.invariant.in_turn, c.loop-low-test.false) in
    record {
      within = omega (arith, same, c.loop-low.invariant.within);
      before = c.loop-low.invariant.before;
      there = subst (λ (k : ℕ). BeginsAt (is_cut c.args.cut c.args.role.now) k c.args.rows.now) same c.loop-low.invariant.there;
    }
