use Rattle.std.proofs.Common.{List, ◌≡◌, ◌<◌, ◌+◌, ◌∙◌, arith, sym, ap, subst, length, Some}
use Rattle.std.specs.List.{slice_get}
use Rattle.std.proofs.lemmas.Option.{slice_get_within}
use Rattle.credential_text.specs.declared.credentials.Credential.{Credential}
use Rattle.vaults.specs.Journal.{Vault}
use Rattle.vaults.specs.Blocks.{rows_in}
use Rattle.snapshots.specs.Span.{rows_of, role_rows, span_of}
use Rattle.snapshots.specs.Snapshot.{SnapshotState}
use Rattle.snapshots.proofs.Views.{span_vault, span_rows, span_within, span_row}
use Rattle.snapshots.proofs.snapshots.Snapshot.row.Goals as goal

pub index-requires : goal.index-requires
index-requires c =
    let is : c.args.span ≡ span_of c.self.inside.vaults.items c.requires.found.0 = c.requires.found.1 ∙ ap (λ (s : SnapshotState). span_of s.vaults c.requires.found.0) (sym c.self.view_is) in
    let there : (v : Vault) × (slice_get c.self.inside.vaults.items c.args.span.vault ≡ Some v) × (v.rows ≡ rows_of c.self.inside.vaults.items c.requires.found.0.owner) =
    span_vault c.self.inside.vaults.items c.args.span c.args.i c.requires.found.0 c.self.invariant is c.requires.place in
    let within : c.args.span.vault < length c.self.inside.vaults.items = slice_get_within c.self.inside.vaults.items c.args.span.vault there.0 there.1 in
    omega (arith, within, c.self.inside.vaults.ok.0, c.self.inside.vaults.ok.1)

pub row_at-requires : goal.row_at-requires
row_at-requires c =
    let is : c.args.span ≡ span_of c.self.inside.vaults.items c.requires.found.0 = c.requires.found.1 ∙ ap (λ (s : SnapshotState). span_of s.vaults c.requires.found.0) (sym c.self.view_is) in
    subst (λ (rows : List Credential). c.args.span.lo + c.args.i < length rows)
    (sym (span_rows c.self.inside.vaults.items c.args.span c.args.i c.requires.found.0 c.index.result.now (rows_in c.rows-rows.result) c.self.invariant is c.requires.place c.index.ensures c.rows-rows.ensures.rows))
    (span_within c.self.inside.vaults.items c.args.span c.args.i c.requires.found.0 c.self.invariant is c.requires.place)

pub returns : goal.returns
returns c role found =
    let is : c.args.span ≡ span_of c.self.inside.vaults.items role = found ∙ ap (λ (s : SnapshotState). span_of s.vaults role) (sym c.self.view_is) in
    ap (λ (s : SnapshotState). slice_get (role_rows s.vaults role) c.args.i) (sym c.self.view_is)
    ∙ span_row c.self.inside.vaults.items c.args.span c.args.i role c.row_at.result.now c.self.invariant is c.requires.place
    (ap (λ (rows : List Credential). slice_get rows (c.args.span.lo + c.args.i))
    (sym (span_rows c.self.inside.vaults.items c.args.span c.args.i role c.index.result.now (rows_in c.rows-rows.result) c.self.invariant is c.requires.place c.index.ensures c.rows-rows.ensures.rows))
    ∙ c.row_at.ensures)
