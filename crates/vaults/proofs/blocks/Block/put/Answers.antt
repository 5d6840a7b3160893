use Rattle.std.proofs.Common.{Result, Ok, Err, OnErr, List, not, ◌∙◌, sym, ap, refl, subst}
use Rattle.std.specs.Arc.{arc_value}
use Rattle.std.specs.BTreeSet.{insert_key}
use Rattle.credential_text.specs.declared.credentials.Credential.{Credential}
use Rattle.credential_text.specs.Credential.{credential_order}
use Rattle.vaults.specs.Blocks.{IsBlock}
use Rattle.vaults.proofs.Elements.{sorted-insert_key}
use Rattle.vaults.proofs.Orders.{credentials_exact}
use Rattle.vaults.proofs.Places.{has_searched, inserted_there, there_already}
use Rattle.vaults.proofs.Parts.{length-put_some}
use Rattle.vaults.proofs.blocks.Block.put.Goals as goal

on_err : {T E : Type 0} (r : Result T E) (P : Type 0) → P → OnErr r P
on_err (Ok x) P p = tt
on_err (Err e) P p = p

pub returns-in_err-insert_row-in-Err-clause-growth : goal.returns-in_err-insert_row-in-Err-clause-growth
returns-in_err-insert_row-in-Err-clause-growth c =
    on_err c.from_residual.result _
    (sym (has_searched credentials_exact c.args.self.now c.rows.result.now c.args.credential.now (Err c.in-Err.place) c.rows.ensures.rows c.in-Err.ensures))

pub invariant_of-self-in-Err : goal.invariant_of-self-in-Err
invariant_of-self-in-Err c =
    let rows : List Credential = (arc_value c.self.inside.rows).items in
    subst IsBlock
    (sym (inserted_there credentials_exact rows c.rows.result.now _ c.args.credential.now _ c.in-Err.place (c.rows.ensures.rows ∙ sym c.self.view_is) c.in-Err.ensures refl
    c.in_ok-insert_row-in-Err.ensures.inserted))
    (record { some = length-put_some rows c.args.credential.now; in_order = sorted-insert_key credentials_exact rows c.args.credential.now c.self.invariant.in_order })

pub returns-in-Ok-clause-put : goal.returns-in-Ok-clause-put
returns-in-Ok-clause-put c =
    there_already credentials_exact c.args.self.now c.rows.result.now c.args.credential.now c.in-Ok.field-0 c.rows.ensures.in_order c.rows.ensures.rows c.in-Ok.ensures

pub returns-in-Ok-clause-missed : goal.returns-in-Ok-clause-missed
returns-in-Ok-clause-missed c =
    ap not (has_searched credentials_exact c.args.self.now c.rows.result.now c.args.credential.now (Ok c.in-Ok.field-0) c.rows.ensures.rows c.in-Ok.ensures)

pub returns-in_ok-insert_row-in-Err-clause-put : goal.returns-in_ok-insert_row-in-Err-clause-put
returns-in_ok-insert_row-in-Err-clause-put c =
    inserted_there credentials_exact (arc_value c.self.inside.rows).items c.rows.result.now _ c.args.credential.now _ c.in-Err.place (c.rows.ensures.rows ∙ sym c.self.view_is) c.in-Err.ensures
    refl c.in_ok-insert_row-in-Err.ensures.inserted
    ∙ ap (λ (l : List Credential). insert_key credential_order l c.args.credential.now) c.self.view_is

pub returns-in_ok-insert_row-in-Err-clause-missed : goal.returns-in_ok-insert_row-in-Err-clause-missed
returns-in_ok-insert_row-in-Err-clause-missed c =
    ap not (has_searched credentials_exact c.args.self.now c.rows.result.now c.args.credential.now (Err c.in-Err.place) c.rows.ensures.rows c.in-Err.ensures)
