use Rattle.std.proofs.Common.{List, ◌≡◌, ◌++◌, ◌∙◌, arith, ap, sym, refl, length, length-append, subst}
use Rattle.std.specs.Arc.{arc_value}
use Rattle.std.specs.Result.{IsOk}
use Rattle.std.specs.List.Sorted.{IsStrictlySortedBy}
use Rattle.credential_text.specs.declared.credentials.Credential.{Credential}
use Rattle.credential_text.specs.Credential.{credential_order}
use Rattle.vaults.specs.Blocks.{IsBlock}
use Rattle.vaults.proofs.Copies.{same_rows}
use Rattle.vaults.proofs.Parts.{sorted_front, sorted_back}
use Rattle.vaults.proofs.blocks.Block.split_off.Goals as goal

pub invariant_of-result : goal.invariant_of-result
invariant_of-result c =
    let rows : List Credential = (arc_value c.self.inside.rows).items in
    let front : List Credential = c.part.new.rows.items in
    let back : List Credential = (arc_value c.in_ok-rows.rows).items in
    let parted : rows ≡ front ++ back = sym (same_rows rows c.in_ok-make_mut.field-0.now.items _ _ (λ e. ap (λ v. v.items) e) c.in_ok-make_mut.ensures.value) ∙ c.in_ok-rows.ensures.parted in
    record {
      some = omega (arith, ap length parted, length-append front back, c.in_ok-rows.ensures.kept, ap length c.self.view_is, c.requires.1);
      in_order = sorted_back front back (subst (IsStrictlySortedBy credential_order) parted c.self.invariant.in_order);
    }

pub invariant_of-self-2 : goal.invariant_of-self-2
invariant_of-self-2 c =
    let rows : List Credential = (arc_value c.self.inside.rows).items in
    let front : List Credential = c.part.new.rows.items in
    let back : List Credential = (arc_value c.in_ok-rows.rows).items in
    let parted : rows ≡ front ++ back = sym (same_rows rows c.in_ok-make_mut.field-0.now.items _ _ (λ e. ap (λ v. v.items) e) c.in_ok-make_mut.ensures.value) ∙ c.in_ok-rows.ensures.parted in
    subst IsBlock (sym (ap (λ v. v.items) (c.make_mut.follows.holds c.part.new.rows (subst IsOk (sym c.in_ok-make_mut.was) refl)))) (record {
      some = omega (arith, c.in_ok-rows.ensures.kept, c.requires.0);
      in_order = sorted_front front back (subst (IsStrictlySortedBy credential_order) parted c.self.invariant.in_order);
    })

pub returns-clause-parted : goal.returns-clause-parted
returns-clause-parted c =
    let rows : List Credential = (arc_value c.self.inside.rows).items in
    let back : List Credential = (arc_value c.in_ok-rows.rows).items in
    sym c.self.view_is
    ∙ sym (same_rows rows c.in_ok-make_mut.field-0.now.items _ _ (λ e. ap (λ v. v.items) e) c.in_ok-make_mut.ensures.value) ∙ c.in_ok-rows.ensures.parted
    ∙ ap (λ (l : List Credential). l ++ back) (sym (ap (λ v. v.items) (c.make_mut.follows.holds c.part.new.rows (subst IsOk (sym c.in_ok-make_mut.was) refl))))
