use Rattle.std.proofs.Common.{◌≡◌, map, take}
use Rattle.vaults.proofs.Exactness.{with_vault}
use Rattle.snapshots.proofs.snapshots.Snapshot.take.Given as goal

abbrev pub invariant-loop-owner : goal.invariant-loop-owner
invariant-loop-owner l = record {
  taken : l.vaults.items ≡ map (with_vault l.initial.book) (take l.owner-index l.owner-items);
  same : l.book ≡ l.initial.book;
}
