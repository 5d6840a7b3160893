use Rattle.std.proofs.Common.{rules}
use Rattle.names.proofs.roles.Role.compare.Goals as goal

pub returns : goal.returns
returns c = search rules
