use Rattle.std.proofs.Common.{arith}
use Rattle.vaults.specs.Blocks.{rows_in}
use Rattle.snapshots.specs.Span.{is_cut}
use Rattle.snapshots.proofs.Counting.{point_at}
use Rattle.snapshots.proofs.Cuts.{parted_rows}
use Rattle.snapshots.proofs.Through.{cut_through, block_sorted, block_own}
use Rattle.snapshots.proofs.spans.rows_until.Goals as goal

pub block_until-requires-clause-in_order : goal.block_until-requires-clause-in_order
block_until-requires-clause-in_order c = block_sorted c.args.rows.now c.spot_of-spot.result c.block.result.now c.block.ensures.block c.requires.in_order

pub block_until-requires-clause-own : goal.block_until-requires-clause-own
block_until-requires-clause-own c = block_own c.args.role.now.owner c.args.rows.now c.spot_of-spot.result c.block.result.now c.block.ensures.block c.requires.own

pub overflow_add-result : goal.overflow_add-result
overflow_add-result c =
    let parted = parted_rows c.args.cut c.args.role.now (rows_in c.args.rows.now) c.requires.in_order in
    omega (
      arith,
      c.start.ensures,
      c.block_until.ensures.count,
      cut_through (is_cut c.args.cut c.args.role.now) c.args.rows.now c.spot_of-spot.result c.block.result.now parted c.spot_of-spot.ensures c.block.ensures.block,
      (point_at (is_cut c.args.cut c.args.role.now) (rows_in c.args.rows.now) parted).0,
      c.len-all.ensures.count,
      c.len-all.ensures.fits,
    )

pub returns : goal.returns
returns c =
    omega (
      arith,
      c.start.ensures,
      c.block_until.ensures.count,
      cut_through (is_cut c.args.cut c.args.role.now) c.args.rows.now c.spot_of-spot.result c.block.result.now
          (parted_rows c.args.cut c.args.role.now (rows_in c.args.rows.now) c.requires.in_order) c.spot_of-spot.ensures c.block.ensures.block,
    )
