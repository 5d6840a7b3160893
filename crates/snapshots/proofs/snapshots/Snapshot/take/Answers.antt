use Rattle.std.proofs.Common.{List, arith, sym, ap, subst, ◌∙◌}
use Rattle.vaults.specs.Journal.{Vault}
use Rattle.snapshots.specs.Snapshot.{SnapshotState, IsOrdered}
use Rattle.snapshots.proofs.Views.{ordered_view, view_taken}
use Rattle.snapshots.proofs.snapshots.Snapshot.take.Goals as goal

pub invariant_of-result : goal.invariant_of-result
invariant_of-result c =
    subst IsOrdered (sym (view_taken c.args.book.now c.args.who _ c.loop-owner.vaults.items c.loop-owner.owner-index c.loop-owner.invariant.taken (omega arith) (c.deref-owner-items.ensures.value ∙ c.in_ok-owners.ensures.names)))
    (ordered_view c.args.book.now c.args.who)

pub returns-clause-view : goal.returns-clause-view
returns-clause-view c =
    let of_asker : List Vault → SnapshotState = λ vs. record { asker = c.args.who; vaults = vs } in
    ap of_asker (view_taken c.args.book.now c.args.who _ c.loop-owner.vaults.items c.loop-owner.owner-index c.loop-owner.invariant.taken (omega arith) (c.deref-owner-items.ensures.value ∙ c.in_ok-owners.ensures.names))
