use Rattle.std.proofs.Common.{arith}
use Rattle.snapshots.specs.Span.{is_below}
use Rattle.snapshots.proofs.Counting.{counted_by, counted_past}
use Rattle.snapshots.proofs.Views.{parted_vaults}
use Rattle.snapshots.proofs.snapshots.is_vaults_below.Goals as goal

pub returns-then-count-vaults-clause-exact : goal.returns-then-count-vaults-clause-exact
returns-then-count-vaults-clause-exact g c =
    counted_past (is_below c.args.owner.now) c.args.vaults.now c.args.count (parted_vaults c.args.owner.now c.args.vaults.now c.requires) (omega arith)

pub returns-clause-exact : goal.returns-clause-exact
returns-clause-exact g c =
    counted_by (is_below c.args.owner.now) c.args.vaults.now c.args.count c.owner_passes_below-below.result c.owner_fails_at-above.result c.both.result
    (parted_vaults c.args.owner.now c.args.vaults.now c.requires) (omega arith) c.owner_passes_below-below.ensures.exact c.owner_fails_at-above.ensures.exact c.both.ensures
