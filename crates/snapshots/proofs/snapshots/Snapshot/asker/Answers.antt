use Rattle.std.proofs.Common.{subst, ap}
use Rattle.snapshots.specs.Snapshot.{SnapshotState, IsOrdered}
use Rattle.snapshots.proofs.snapshots.Snapshot.asker.Goals as goal

pub returns-clause-asker : goal.returns-clause-asker
returns-clause-asker c = ap (λ (s : SnapshotState). s.asker) c.self.view_is

pub returns-clause-ordered : goal.returns-clause-ordered
returns-clause-ordered c = subst (λ (s : SnapshotState). IsOrdered s.vaults) c.self.view_is c.self.invariant
