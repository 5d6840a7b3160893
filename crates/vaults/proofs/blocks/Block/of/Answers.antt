use Rattle.std.proofs.Common.{[], ◌∷◌, arith}
use Rattle.credential_text.specs.declared.credentials.Credential.{Credential}
use Rattle.vaults.specs.Blocks.{IsBlock}
use Rattle.vaults.proofs.Parts.{one_sorted}
use Rattle.vaults.proofs.blocks.Block.of.Goals as goal

one_block : (x : Credential) → IsBlock (x ∷ [])
one_block x = record { some = omega arith; in_order = one_sorted x }

pub invariant_of-result : goal.invariant_of-result
invariant_of-result c = rw (c.in_ok-rows.ensures.ok, c.in_ok-push.ensures.items, c.new-list.ensures.items) (one_block c.in_ok-row.row)
