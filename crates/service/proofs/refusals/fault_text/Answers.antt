-- A number has the text that stands beside it, and no other number has one.
use Rattle.std.proofs.Common.{rules}
use Rattle.service.proofs.refusals.fault_text.Goals as goal

pub returns-clause-text : goal.returns-clause-text
returns-clause-text c = search rules
