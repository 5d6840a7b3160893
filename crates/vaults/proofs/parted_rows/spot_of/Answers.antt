use Rattle.std.proofs.Common.{ℕ, ◌≡◌, ◌∙◌, ◌+◌, ◌-◌, ◌/◌, sym, ap, subst, get_or, length, arith}
use Rattle.std.proofs.lemmas.Option.{get_or_from_slice_get}
use Rattle.vaults.specs.Blocks.{begins_above, IsNotAboveAt}
use Rattle.vaults.proofs.parted_rows.spot_of.Goals as goal

pub loop-low-preserved-then-begins_above : goal.loop-low-preserved-then-begins_above
loop-low-preserved-then-begins_above c = record {
  in_turn = omega (arith, c.loop-low-test.true);
  within = c.loop-low.invariant.within;
  before = λ before b next at.
      let here : c.loop-low.low + (c.loop-low.high - c.loop-low.low) / 2 ≡ before = omega (arith, next) in
      let is : c.index-blocks-middle.result ≡ b =
      c.index-blocks-middle.is ∙ ap (λ (k : ℕ). get_or c.args.blocks.now k c.index-blocks-middle.result) here
      ∙ get_or_from_slice_get c.args.blocks.now before b c.index-blocks-middle.result at in
      ap (begins_above c.args.credential.now) (sym is) ∙ sym c.begins_above.ensures.above ∙ c.if-begins_above.true;
  there = c.loop-low.invariant.there;
}

pub loop-low-preserved : goal.loop-low-preserved
loop-low-preserved c = record {
  in_turn = omega arith;
  within = omega (arith, c.loop-low-test.true, c.loop-low.invariant.within);
  before = c.loop-low.invariant.before;
  there = λ b more at.
      let is : c.index-blocks-middle.result ≡ b =
      c.index-blocks-middle.is ∙ get_or_from_slice_get c.args.blocks.now (c.loop-low.low + (c.loop-low.high - c.loop-low.low) / 2) b c.index-blocks-middle.result at in (
        omega (arith, c.begins_above.ensures.some, ap length is),
        ap (begins_above c.args.credential.now) (sym is) ∙ sym c.begins_above.ensures.above ∙ c.if-begins_above.false,
      );
}

pub returns : goal.returns
returns c =
    let same : c.loop-low.high ≡ c.loop-low.low = omega (arith, c.loop-low.invariant.in_turn, c.loop-low-test.false) in
    record {
      within = omega (arith, same, c.loop-low.invariant.within);
      before = c.loop-low.invariant.before;
      there = subst (λ (k : ℕ). IsNotAboveAt c.args.credential.now k c.args.blocks.now) same c.loop-low.invariant.there;
    }
