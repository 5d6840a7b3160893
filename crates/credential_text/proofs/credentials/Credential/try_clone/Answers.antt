use Rattle.std.proofs.Common.{refl}
use Rattle.credential_text.proofs.Same.{same_credential}
use Rattle.credential_text.proofs.credentials.Credential.try_clone.Goals as goal

pub returns-clause-same : goal.returns-clause-same
returns-clause-same c = same_credential _ _ refl c.in_ok-body.ensures.same
