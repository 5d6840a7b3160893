use Rattle.std.proofs.Common.{ℕ, ◌∙◌, ◌+◌, ap}
use Rattle.snapshots.proofs.steps.Steps.tick.Goals as goal

pub returns : goal.returns
returns g c = c.add.ensures.total ∙ ap (λ (n : ℕ). n + 1) c.self.view_is
