use Rattle.std.proofs.Common.{◌≡◌, ◌++◌, take}
use Rattle.std.specs.List.{flat_map}
use Rattle.rt0_rules.specs.Asked.{body_asks}
use Rattle.rt0_rules.proofs.asks.push_bodies.Given as goal

abbrev pub invariant-loop-credential : goal.invariant-loop-credential
invariant-loop-credential l = l.asks.items ≡ l.fn.asks.items ++ flat_map (body_asks l.role) (take l.credential-index l.credentials)
