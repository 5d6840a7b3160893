use Rattle.std.proofs.Common.{rules}
use Rattle.vaults.proofs.pages.Page.keep.Goals as goal

pub returns-clause-kept : goal.returns-clause-kept
returns-clause-kept c = search rules
