use Rattle.hall.proofs.halls.Hall.journal_len.Goals as goal

pub returns-clause-length : goal.returns-clause-length
returns-clause-length c = rw (← c.self.view_is) c.journal_len.ensures

pub returns-clause-sound : goal.returns-clause-sound
returns-clause-sound c = rw (← c.self.view_is) c.self.invariant.sound
