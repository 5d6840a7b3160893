use Rattle.std.proofs.Common.{rules, sym}
use Rattle.std.proofs.lemmas.Fn.{always_returns_same}
use Rattle.snapshots.specs.Span.{is_below}
use Rattle.snapshots.proofs.Counting.{how_many_at}
use Rattle.snapshots.proofs.Views.{parted_vaults}
use Rattle.snapshots.proofs.snapshots.vaults_below.Goals as goal

pub returns : goal.returns
returns c =
    sym (how_many_at (is_below c.args.owner.now) c.args.vaults.now c.partition_point.result c.partition_point.ensures.bound
    (c.partition_point.ensures.partitioned (is_below c.args.owner.now) (always_returns_same _ _ _ (λ a r f' k. search rules)) (parted_vaults c.args.owner.now c.args.vaults.now c.requires)))
