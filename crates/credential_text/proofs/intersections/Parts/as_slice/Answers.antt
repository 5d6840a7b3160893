use Rattle.std.proofs.Common.{◌∙◌}
use Rattle.credential_text.proofs.intersections.Parts.as_slice.Goals as goal

pub returns-clause-parts : goal.returns-clause-parts
returns-clause-parts c = c.as_slice.ensures.value ∙ c.self.view_is
