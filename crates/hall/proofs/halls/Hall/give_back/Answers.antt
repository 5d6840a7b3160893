use Rattle.hall.proofs.halls.Hall.give_back.Goals as goal

pub returns : goal.returns
returns c = rw (← c.job.view_is) c.step.ensures
