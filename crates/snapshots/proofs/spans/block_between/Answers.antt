use Rattle.snapshots.proofs.Fronts.{behind_is, sorted_behind, through_behind}
use Rattle.snapshots.proofs.spans.block_between.Goals as goal

pub block_until-requires-clause-in_order : goal.block_until-requires-clause-in_order
block_until-requires-clause-in_order c =
    sorted_behind c.block_until-lo.result c.args.rows.now _ (behind_is c.block_until-lo.result c.args.rows.now) c.requires.in_order

pub returns-clause-hi : goal.returns-clause-hi
returns-clause-hi c =
    through_behind c.args.role.now c.args.rows.now _ c.block_until-lo.result c.block_until.result c.requires.in_order c.block_until-lo.ensures.count
    (behind_is c.block_until-lo.result c.args.rows.now) c.block_until.ensures.count
