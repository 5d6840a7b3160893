use Rattle.proof_trees.proofs.Soundness.{sound}
use Rattle.proof_trees.proofs.laws.proofs_are_sound.Goals as goal

pub returns-clause-sound : goal.returns-clause-sound
returns-clause-sound c = sound
