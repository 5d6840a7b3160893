use Rattle.std.proofs.Common.{◌≡◌, ◌++◌, map, take}
use Rattle.vaults.specs.Merge.{to_everybody}
use Rattle.vaults.proofs.merges.push_all.Given as goal

abbrev pub invariant-loop-name : goal.invariant-loop-name
invariant-loop-name l = l.seen.items ≡ l.initial.seen.items ++ map to_everybody (take l.name-index l.public)
