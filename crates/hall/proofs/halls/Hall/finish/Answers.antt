use Rattle.hall.proofs.halls.Hall.finish.Goals as goal

pub returns : goal.returns
returns c = rw (← c.job.view_is) c.step.ensures
