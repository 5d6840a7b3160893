use Rattle.std.proofs.Common.{◌∙◌}
use Rattle.proof_trees.proofs.premises.Premises.as_slice.Goals as goal

pub returns : goal.returns
returns c = c.as_slice.ensures ∙ c.self.view_is
