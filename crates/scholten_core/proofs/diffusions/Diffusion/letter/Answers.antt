use Rattle.scholten_core.proofs.Complete.{stand_by_number}
use Rattle.scholten_core.proofs.diffusions.Diffusion.letter.Goals as goal

pub returns : goal.returns
returns g c = rw (← c.self.view_is) (record { letter = c.get.ensures; by_number = stand_by_number _ c.self.invariant.sound; sound = c.self.invariant.sound })
