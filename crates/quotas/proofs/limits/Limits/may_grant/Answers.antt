use Rattle.quotas.proofs.limits.Limits.may_grant.Goals as goal

pub returns : goal.returns
returns c = rw (← c.self.view_is) (record { ok = c.below.ensures.ok; full = c.below.ensures.full })
