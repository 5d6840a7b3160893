use Rattle.std.proofs.Common.{◌≡◌, ◌+◌, ◌≤◌, length, take}
use Rattle.std.specs.List.{sum_by}
use Rattle.rt0_rules.specs.Asked.{members_among}
use Rattle.rt0_rules.proofs.work.work_of.Given as goal

abbrev pub invariant-loop-ask : goal.invariant-loop-ask
invariant-loop-ask l =
    (l.work ≡ 1 + length l.asks + sum_by (λ ask. length (members_among l.facts l.everyone ask.asked)) (take l.ask-index l.asks)) × (l.work ≤ l.limit)
