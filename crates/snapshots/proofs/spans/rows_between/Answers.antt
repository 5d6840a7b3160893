use Rattle.std.proofs.Common.{◌∙◌, sym, arith}
use Rattle.vaults.specs.Blocks.{rows_in}
use Rattle.snapshots.specs.declared.spans.Cut.TheVariants.{Before, Through}
use Rattle.snapshots.specs.Span.{is_before, is_through}
use Rattle.snapshots.specs.Blocks.{IsCutThrough}
use Rattle.snapshots.proofs.Counting.{point_at}
use Rattle.snapshots.proofs.Cuts.{parted_rows}
use Rattle.snapshots.proofs.Through.{cut_through, begins_through, block_sorted, block_own, none_in}
use Rattle.snapshots.proofs.spans.rows_between.Goals as goal

pub returns-then-blocks_len-eq0-clause-lo : goal.returns-then-blocks_len-eq0-clause-lo
returns-then-blocks_len-eq0-clause-lo c = none_in (is_before c.args.role.now) c.args.rows.now (sym c.blocks_len.ensures ∙ c.if-blocks_len-eq0.true)

pub returns-then-blocks_len-eq0-clause-hi : goal.returns-then-blocks_len-eq0-clause-hi
returns-then-blocks_len-eq0-clause-hi c = none_in (is_through c.args.role.now) c.args.rows.now (sym c.blocks_len.ensures ∙ c.if-blocks_len-eq0.true)

pub block_between-lo-requires-clause-in_order : goal.block_between-lo-requires-clause-in_order
block_between-lo-requires-clause-in_order c = block_sorted c.args.rows.now c.spot_of-spot.result c.block.result.now c.block.ensures.block c.requires.in_order

pub block_between-lo-requires-clause-own : goal.block_between-lo-requires-clause-own
block_between-lo-requires-clause-own c = block_own c.args.role.now.owner c.args.rows.now c.spot_of-spot.result c.block.result.now c.block.ensures.block c.requires.own

pub overflow_add-result : goal.overflow_add-result
overflow_add-result c =
    let parted = parted_rows Before c.args.role.now (rows_in c.args.rows.now) c.requires.in_order in
    omega (
      arith,
      c.start-start.ensures,
      c.block_between-lo.ensures.lo,
      cut_through (is_before c.args.role.now) c.args.rows.now c.spot_of-spot.result c.block.result.now parted c.spot_of-spot.ensures c.block.ensures.block,
      (point_at (is_before c.args.role.now) (rows_in c.args.rows.now) parted).0,
      c.len-all.ensures.count,
      c.len-all.ensures.fits,
    )

pub overflow_add-result-2 : goal.overflow_add-result-2
overflow_add-result-2 c =
    let parted = parted_rows Through c.args.role.now (rows_in c.args.rows.now) c.requires.in_order in
    let through : IsCutThrough (is_through c.args.role.now) c.spot_of-spot.result c.args.rows.now = record {
      within = c.spot_of-spot.ensures.within;
      before = c.goes_on.ensures c.if-goes_on.false;
      there = begins_through c.args.role.now c.spot_of-spot.result c.args.rows.now c.spot_of-spot.ensures.there;
    } in
    omega (
      arith,
      c.start-start.ensures,
      c.block_between-lo.ensures.hi,
      cut_through (is_through c.args.role.now) c.args.rows.now c.spot_of-spot.result c.block.result.now parted through c.block.ensures.block,
      (point_at (is_through c.args.role.now) (rows_in c.args.rows.now) parted).0,
      c.len-all.ensures.count,
      c.len-all.ensures.fits,
    )

pub returns-clause-lo : goal.returns-clause-lo
returns-clause-lo c =
    omega (
      arith,
      c.start-start.ensures,
      c.block_between-lo.ensures.lo,
      cut_through (is_before c.args.role.now) c.args.rows.now c.spot_of-spot.result c.block.result.now
          (parted_rows Before c.args.role.now (rows_in c.args.rows.now) c.requires.in_order) c.spot_of-spot.ensures c.block.ensures.block,
    )

pub returns-clause-hi : goal.returns-clause-hi
returns-clause-hi c =
    let through : IsCutThrough (is_through c.args.role.now) c.spot_of-spot.result c.args.rows.now = record {
      within = c.spot_of-spot.ensures.within;
      before = c.goes_on.ensures c.if-goes_on.false;
      there = begins_through c.args.role.now c.spot_of-spot.result c.args.rows.now c.spot_of-spot.ensures.there;
    } in
    omega (
      arith,
      c.start-start.ensures,
      c.block_between-lo.ensures.hi,
      cut_through (is_through c.args.role.now) c.args.rows.now c.spot_of-spot.result c.block.result.now
          (parted_rows Through c.args.role.now (rows_in c.args.rows.now) c.requires.in_order) through c.block.ensures.block,
    )
