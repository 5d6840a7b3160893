use Rattle.std.proofs.Common.{rules}
use Rattle.std.proofs.lemmas.Fn.{always_returns_same}
use Rattle.credential_text.specs.Credential.{credential_order}
use Rattle.vaults.proofs.Orders.{credentials_exact}
use Rattle.vaults.proofs.Places.{place_found}
use Rattle.vaults.proofs.rows.place_of.Goals as goal

pub returns : goal.returns
returns c =
    place_found credentials_exact c.args.rows.now c.args.credential.now _ c.requires c.binary_search_by.ensures.bound
    (c.binary_search_by.ensures.position (λ other. credential_order other c.args.credential.now) (always_returns_same _ _ _ (λ a r f' k. search rules)))
