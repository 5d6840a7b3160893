use Rattle.std.proofs.Common.{◌≡◌, ◌++◌, drop}
use Rattle.vaults.proofs.Merging.{merged}
use Rattle.vaults.proofs.merges.merged.Given as goal

abbrev pub invariant-loop-name : goal.invariant-loop-name
invariant-loop-name l = l.seen.items ++ merged (drop l.name-index l.names) l.rest ≡ merged l.names l.public
