use Rattle.quotas.proofs.limits.Limits.creds.Goals as goal

pub returns-clause-limit : goal.returns-clause-limit
returns-clause-limit c j = (c.self.view_is j).creds
