use Rattle.hall.proofs.laws.HallSound.{events_keep, new_sound}
use Rattle.hall.proofs.laws.HallRuns.{runs_allowed}
use Rattle.hall.proofs.run_laws.runs_are_allowed.Goals as goal

pub returns-clause-allowed : goal.returns-clause-allowed
returns-clause-allowed c = runs_allowed

pub returns-clause-kept : goal.returns-clause-kept
returns-clause-kept c = events_keep

pub returns-clause-begun : goal.returns-clause-begun
returns-clause-begun c = new_sound
