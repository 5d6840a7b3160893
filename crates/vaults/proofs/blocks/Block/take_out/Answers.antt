use Rattle.std.proofs.Common.{ℕ, Ok, List, ◌≡◌, ◌<◌, ◌∙◌, arith, length, remove, sym, ap, refl, subst}
use Rattle.std.specs.Arc.{arc_value}
use Rattle.std.specs.Result.{IsOk}
use Rattle.std.specs.List.Sorted.{IsStrictlySortedBy}
use Rattle.credential_text.specs.declared.credentials.Credential.{Credential}
use Rattle.credential_text.specs.Credential.{credential_order}
use Rattle.vaults.specs.InOrder.{without, IsPlace}
use Rattle.vaults.specs.Blocks.{IsBlock}
use Rattle.vaults.proofs.Copies.{same_rows}
use Rattle.vaults.proofs.Elements.{sorted-without}
use Rattle.vaults.proofs.Orders.{credentials_exact}
use Rattle.vaults.proofs.Places.{removed_there, gone_already}
use Rattle.vaults.proofs.Parts.{length-taken_least}
use Rattle.vaults.proofs.blocks.Block.take_out.Goals as goal

taken : (rows read now new : List Credential) (x : Credential) (i : ℕ) → IsStrictlySortedBy credential_order rows → read ≡ rows → IsPlace credential_order read x (Ok i) →
    now ≡ rows → new ≡ remove now i → new ≡ without credential_order x rows
taken rows read now new x i sorted same place copy after = removed_there credentials_exact rows read new x i sorted same place (after ∙ ap (λ (l : List Credential). remove l i) copy)

still_block : (rows new : List Credential) (x : Credential) → new ≡ without credential_order x rows → 1 < length rows → IsBlock rows → IsBlock new
still_block rows new x taken many block =
    subst IsBlock (sym taken) (record {
      some = omega (arith, many, length-taken_least rows x block.in_order);
      in_order = sorted-without credentials_exact rows x block.in_order;
    })

pub invariant_of-self-in-Ok : goal.invariant_of-self-in-Ok
invariant_of-self-in-Ok c =
    let rows : List Credential = (arc_value c.self.inside.rows).items in
    still_block rows _ c.args.credential.now
    (taken rows c.rows.result.now c.in_ok-make_mut.field-0.now.items _ c.args.credential.now c.in-Ok.place c.self.invariant.in_order (c.rows.ensures.rows ∙ sym c.self.view_is) c.in-Ok.ensures
    (same_rows rows c.in_ok-make_mut.field-0.now.items _ _ (λ e. ap (λ v. v.items) e) c.in_ok-make_mut.ensures.value)
    (ap (λ v. v.items) (c.make_mut.follows.holds c.remove.new.self (subst IsOk (sym c.in_ok-make_mut.was) refl)) ∙ c.remove.ensures.items))
    (subst (λ (l : List Credential). 1 < length l) (sym c.self.view_is) c.requires) c.self.invariant

pub returns-in_ok-make_mut-clause-taken : goal.returns-in_ok-make_mut-clause-taken
returns-in_ok-make_mut-clause-taken c =
    let rows : List Credential = (arc_value c.self.inside.rows).items in
    taken rows c.rows.result.now c.in_ok-make_mut.field-0.now.items _ c.args.credential.now c.in-Ok.place c.self.invariant.in_order (c.rows.ensures.rows ∙ sym c.self.view_is) c.in-Ok.ensures
    (same_rows rows c.in_ok-make_mut.field-0.now.items _ _ (λ e. ap (λ v. v.items) e) c.in_ok-make_mut.ensures.value)
    (ap (λ v. v.items) (c.make_mut.follows.holds c.remove.new.self (subst IsOk (sym c.in_ok-make_mut.was) refl)) ∙ c.remove.ensures.items)
    ∙ ap (without credential_order c.args.credential.now) c.self.view_is

pub returns-in_default-clause-taken : goal.returns-in_default-clause-taken
returns-in_default-clause-taken c = gone_already credentials_exact c.args.self.now c.rows.result.now c.args.credential.now c.in_default.field-0 c.rows.ensures.rows c.in_default.ensures
