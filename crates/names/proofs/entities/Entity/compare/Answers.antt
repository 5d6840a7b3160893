use Rattle.std.proofs.Common.{◌∙◌}
use Rattle.names.specs.Name.{name_order}
use Rattle.names.proofs.entities.Entity.compare.Goals as goal

pub returns : goal.returns
returns c = c.cmp.ensures ∙ (λ j. name_order (c.self.view_is j) (c.other.view_is j))
