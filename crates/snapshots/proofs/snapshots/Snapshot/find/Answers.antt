use Rattle.std.proofs.Common.{◌≡◌, sym, subst}
use Rattle.std.specs.List.{All}
use Rattle.credential_text.specs.declared.credentials.Credential.{Credential}
use Rattle.snapshots.specs.Snapshot.{IsOrdered}
use Rattle.snapshots.proofs.Views.{own_rows_of}
use Rattle.snapshots.proofs.snapshots.Snapshot.find.Goals as goal

pub rows_between-lo-requires-clause-own : goal.rows_between-lo-requires-clause-own
rows_between-lo-requires-clause-own c =
    subst (All (λ (r : Credential). r.head.owner ≡ c.args.role.now.owner)) (sym c.rows_at-rows.ensures.rows)
    (own_rows_of c.args.role.now.owner c.deref-2.result.now (subst IsOrdered (sym c.deref-2.ensures.value) c.self.invariant))
