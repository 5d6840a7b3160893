use Rattle.std.proofs.Common.{◌-◌}
use Rattle.rt0_rules.proofs.Asking.{AskedSoFar}
use Rattle.rt0_rules.proofs.work.ask_all.Given as goal

abbrev pub invariant-loop-next : goal.invariant-loop-next
invariant-loop-next l = AskedSoFar l.credentials l.facts l.everyone l.role l.asks.items l.next

abbrev pub decreases-loop-next : goal.decreases-loop-next
decreases-loop-next l = l.limit - l.next
