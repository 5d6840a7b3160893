use Rattle.std.proofs.Common.{◌≡◌, ◌++◌, take}
use Rattle.std.specs.List.{flat_map}
use Rattle.rt0_rules.specs.Asked.{base_ask, via_asks}
use Rattle.rt0_rules.proofs.asks.push_link.Given as goal

abbrev pub invariant-loop-who : goal.invariant-loop-who
invariant-loop-who l =
    l.asks.items ≡ l.fn.asks.items ++ base_ask l.base l.name ++ flat_map (via_asks l.facts l.base l.name) (take l.who-index l.everyone)
