use Rattle.std.proofs.Common.{◌∙◌, ◌++◌, ◌∷◌, [], List, ap}
use Rattle.proof_trees.specs.declared.steps.Step.{Step}
use Rattle.proof_trees.proofs.proofs.Proof.push.Goals as goal

pub returns-clause-pushed : goal.returns-clause-pushed
returns-clause-pushed c =
    c.in_ok-push.ensures.items ∙ ap (λ (steps : List Step). steps ++ c.args.step ∷ []) c.self.view_is
