use Rattle.std.proofs.Common.{◌∙◌, ap}
use Rattle.std.specs.Arc.{arc_value}
use Rattle.credential_text.proofs.Same.{same_credential}
use Rattle.vaults.proofs.rows.Row.of.Goals as goal

pub returns : goal.returns
returns c =
    same_credential _ _ (ap (λ held. arc_value held.head) c.in_ok-held.ensures.ok ∙ c.in_ok-head.ensures)
    (ap (λ held. held.body) c.in_ok-held.ensures.ok ∙ c.in_ok-body.ensures.same)
