use Rattle.std.proofs.Common.{◌∙◌, ap}
use Rattle.pool.specs.Passes.{PassState, accepted_in}
use Rattle.pool.proofs.passes.Pass.front.Goals as goal

pub returns : goal.returns
returns g c = c.self.invariant.3 ∙ ap (λ (p : PassState). accepted_in p.seen) c.self.view_is
