use Rattle.std.proofs.Common.{◌∙◌}
use Rattle.names.proofs.entities.Entity.bytes.Goals as goal

pub returns-clause-value : goal.returns-clause-value
returns-clause-value c = c.bytes.ensures.value ∙ c.self.view_is
