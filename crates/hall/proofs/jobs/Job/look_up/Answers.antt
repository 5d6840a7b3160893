use Rattle.hall.proofs.jobs.Job.look_up.Goals as goal

pub returns : goal.returns
returns c = rw (← c.self.view_is) (rw c.deref.ensures at c.look_up.ensures)
