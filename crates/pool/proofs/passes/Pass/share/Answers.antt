use Rattle.std.proofs.Common.{◌∙◌, ap}
use Rattle.pool.specs.Passes.{share_of}
use Rattle.pool.proofs.passes.Pass.share.Goals as goal

pub returns : goal.returns
returns g c = c.self.invariant.1 ∙ c.self.invariant.2 ∙ ap share_of c.self.view_is
