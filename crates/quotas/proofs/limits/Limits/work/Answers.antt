use Rattle.quotas.proofs.limits.Limits.work.Goals as goal

pub returns-clause-limit : goal.returns-clause-limit
returns-clause-limit c j = (c.self.view_is j).work
