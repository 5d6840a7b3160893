use Rattle.std.proofs.Common.{arith, refl}
use Rattle.quotas.specs.Quota.{IsQuota, quota}
use Rattle.quotas.proofs.limits.Limits.make.Goals as goal
use Rattle.quotas.proofs.limits.Limits.make.Goals.{Then-large}

in_range : (c : Then-large)
    → IsQuota (quota c.args.creds c.args.grants c.args.searches c.args.changes c.args.opens c.args.work)
in_range c = record {
  creds = grind arith;
  grants = grind arith;
  searches = grind arith;
  changes = grind arith;
  opens = grind arith;
  work = grind arith;
}

pub invariant_of-result : goal.invariant_of-result
invariant_of-result c = in_range c

pub returns-then-large-clause-ranges : goal.returns-then-large-clause-ranges
returns-then-large-clause-ranges c = (λ _. in_range c, λ _. refl)
