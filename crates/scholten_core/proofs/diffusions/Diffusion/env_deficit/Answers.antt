use Rattle.scholten_core.specs.declared.parents.Parent.TheVariants.{Environment}
use Rattle.scholten_core.proofs.diffusions.Diffusion.env_deficit.Goals as goal

pub returns : goal.returns
returns g c = rw (← c.self.view_is) (c.self.invariant.counts Environment)
