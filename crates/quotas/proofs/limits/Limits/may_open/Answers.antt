use Rattle.quotas.proofs.Below.{below_most}
use Rattle.quotas.proofs.limits.Limits.may_open.Goals as goal

pub returns : goal.returns
returns c = rw (← c.self.view_is) (record {
  ok = c.below.ensures.ok;
  small = below_most c.below.result _ _ _ c.below.ensures.ok c.self.invariant.opens.1;
  full = c.below.ensures.full;
})
