use Rattle.std.proofs.Common.{rules}
use Rattle.credential_text.proofs.credentials.Credential.compare.Goals as goal

pub returns : goal.returns
returns c = search rules
