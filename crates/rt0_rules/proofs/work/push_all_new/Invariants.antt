use Rattle.rt0_rules.specs.Asked.{Adds}
use Rattle.rt0_rules.proofs.work.push_all_new.Given as goal

abbrev pub invariant-loop-ask : goal.invariant-loop-ask
invariant-loop-ask l = Adds l.yielded l.fn.asks.items l.asks.items
