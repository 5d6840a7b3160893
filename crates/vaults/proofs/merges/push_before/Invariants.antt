use Rattle.std.proofs.Common.{◌≡◌, ◌++◌, map, take, All}
use Rattle.std.specs.declared.cmp.Ordering.TheVariants.{Less}
use Rattle.names.specs.Name.{name_order}
use Rattle.vaults.specs.Merge.{to_everybody}
use Rattle.vaults.proofs.merges.push_before.Given as goal

abbrev pub invariant-loop-count : goal.invariant-loop-count
invariant-loop-count l = record {
  pushed : l.seen.items ≡ l.initial.seen.items ++ map to_everybody (take l.count l.public);
  below : All (λ other. name_order other l.name ≡ Less) (take l.count l.public);
}
