use Rattle.std.proofs.Common.{◌∙◌}
use Rattle.proof_trees.proofs.proofs.Proof.steps.Goals as goal

pub returns : goal.returns
returns c = c.as_slice.ensures.value ∙ c.self.view_is
