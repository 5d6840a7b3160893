use Rattle.std.proofs.Common.{◌∙◌}
use Rattle.credential_text.proofs.Same.{same_credential}
use Rattle.vaults.proofs.rows.Row.to_credential.Goals as goal

pub returns-clause-same : goal.returns-clause-same
returns-clause-same c = same_credential _ _ (λ i. record { owner = c.owner.ensures i; name = c.name.ensures i }) (c.in_ok-body.ensures.same ∙ c.body.ensures)
