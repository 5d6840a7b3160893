use Rattle.std.proofs.Common.{List, ◌∙◌, ◌≡◌, ◌+◌, true, arith, sym, ap, subst, length}
use Rattle.std.specs.List.Sorted.{IsStrictlySortedBy}
use Rattle.credential_text.specs.declared.credentials.Credential.{Credential}
use Rattle.credential_text.specs.Credential.{credential_order}
use Rattle.vaults.specs.InOrder.{without}
use Rattle.vaults.specs.Blocks.{rows_in}
use Rattle.vaults.proofs.Elements.{has, sorted-without}
use Rattle.vaults.proofs.Orders.{credentials_exact}
use Rattle.vaults.proofs.Parts.{length-taken}
use Rattle.vaults.proofs.own_rows.OwnRows.take_out.Goals as goal

pub invariant_of-self-2 : goal.invariant_of-self-2
invariant_of-self-2 c =
    let rows : List Credential = rows_in c.self.inside.blocks.items in
    let there : has credential_order rows c.args.credential.now ≡ true = ap (λ (l : List Credential). has credential_order l c.args.credential.now) c.self.view_is ∙ c.requires in
    let fewer : length (without credential_order c.args.credential.now rows) + 1 ≡ length rows = length-taken rows c.args.credential.now c.self.invariant.in_order there in
    record {
      in_order = subst (IsStrictlySortedBy credential_order) (sym c.in_ok-take_row.ensures.taken) (sorted-without credentials_exact rows c.args.credential.now c.self.invariant.in_order);
      counted = omega (arith, fewer, ap length c.in_ok-take_row.ensures.taken, c.self.invariant.counted);
    }
