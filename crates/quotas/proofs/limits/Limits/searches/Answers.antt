use Rattle.quotas.proofs.limits.Limits.searches.Goals as goal

pub returns-clause-limit : goal.returns-clause-limit
returns-clause-limit c j = (c.self.view_is j).searches
