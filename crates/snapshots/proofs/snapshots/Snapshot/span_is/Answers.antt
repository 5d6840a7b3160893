-- The place and both ends are the right ones, and so the span is.
use Rattle.std.proofs.Common.{List, ◌≡◌, ◌∙◌, sym, ap}
use Rattle.credential_text.specs.declared.credentials.Credential.{Credential}
use Rattle.vaults.specs.Journal.{Vault}
use Rattle.vaults.specs.Blocks.{rows_in}
use Rattle.snapshots.specs.declared.spans.Span.{Span}
use Rattle.snapshots.specs.Span.{how_many, is_before, is_through, place_of, rows_of}
use Rattle.snapshots.specs.Snapshot.{SnapshotState}
use Rattle.snapshots.proofs.snapshots.Snapshot.span_is.Goals as goal

pub returns-clause-exact : goal.returns-clause-exact
returns-clause-exact g c =
    let role = c.args.role.now in
    let vaults = ap (λ (s : SnapshotState). s.vaults) c.self.view_is in
    let place = ap (λ (vs : List Vault). place_of vs role.owner) (c.deref.ensures.value ∙ vaults) in
    let rows : rows_in c.rows_at-rows.result ≡ rows_of c.args.self.now.vaults role.owner =
    c.rows_at-rows.ensures.rows ∙ ap (λ (vs : List Vault). rows_of vs role.owner) (c.deref-2.ensures.value ∙ vaults) in
    let before = ap (λ (cs : List Credential). how_many (is_before role) cs) rows in
    let through = ap (λ (cs : List Credential). how_many (is_through role) cs) rows in (
      λ holds.
          let ends = c.both.ensures.0 holds in
          let vault = c.is_vaults_below.ensures.exact.0 c.if-not-is_vaults_below.false ∙ place in
          let lo = c.is_rows_until-lo.ensures.exact.0 ends.0 ∙ before in
          let hi = c.is_rows_until-hi.ensures.exact.0 ends.1 ∙ through in
          λ i. record { vault = vault i; lo = lo i; hi = hi i },
      λ is. c.both.ensures.1 (
        c.is_rows_until-lo.ensures.exact.1 (ap (λ (s : Span). s.lo) is ∙ sym before),
        c.is_rows_until-hi.ensures.exact.1 (ap (λ (s : Span). s.hi) is ∙ sym through),
      ),
    )
