use Rattle.std.proofs.Common.{List, [], ◌∷◌, ◌≡◌, ◌<◌, ◌∙◌, arith, length, get_or, ap, sym, refl}
use Rattle.std.specs.declared.cmp.Ordering.{Ordering}
use Rattle.std.specs.declared.cmp.Ordering.TheVariants.{Less, Equal, Greater}
use Rattle.std.specs.Ordering.{is_lt, is_gt, ordering_reverse}
use Rattle.credential_text.specs.declared.credentials.Credential.{Credential}
use Rattle.credential_text.specs.Credential.{credential_order}
use Rattle.vaults.specs.Blocks.{begins_above}
use Rattle.vaults.proofs.Orders.{credentials_exact}
use Rattle.vaults.proofs.blocks.Block.begins_above.Goals as goal

below-turned : (r : Ordering) → is_gt r ≡ is_lt (ordering_reverse r)
below-turned Less = refl
below-turned Equal = refl
below-turned Greater = refl

above_first : (c d : Credential) (rows : List Credential) → d ≡ get_or rows 0 d → 0 < length rows → is_lt (credential_order c d) ≡ begins_above c rows
above_first c d [] is some = absurd (omega (arith, some))
above_first c d (x ∷ rows) is some = ap (λ (y : Credential). is_lt (credential_order c y)) is

pub returns-clause-above : goal.returns-clause-above
returns-clause-above c =
    c.is_gt.ensures ∙ ap is_gt c.compare.ensures ∙ below-turned _ ∙ ap is_lt (sym (credentials_exact.total.antisymm c.args.credential.now c.index-rows-0.result))
    ∙ above_first c.args.credential.now c.index-rows-0.result c.rows.result.now c.index-rows-0.is (omega (arith, c.rows.ensures.some, ap length c.rows.ensures.rows))
    ∙ ap (begins_above c.args.credential.now) c.rows.ensures.rows
