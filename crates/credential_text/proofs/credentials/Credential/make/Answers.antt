use Rattle.std.proofs.Common.{refl, sym}
use Rattle.credential_text.proofs.credentials.Credential.make.Goals as goal

pub returns-then-keeps_issuer-clause-made : goal.returns-then-keeps_issuer-clause-made
returns-then-keeps_issuer-clause-made c = (λ _. sym c.if-keeps_issuer.ensures, λ _. refl)
