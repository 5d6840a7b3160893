use Rattle.std.proofs.Common.{◌∙◌}
use Rattle.hall.proofs.lists.Listed.as_slice.Goals as goal

pub returns : goal.returns
returns g c = c.deref.ensures.value ∙ c.self.view_is
