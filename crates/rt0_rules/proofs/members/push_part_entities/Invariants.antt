use Rattle.std.proofs.Common.{◌≡◌, ◌++◌, take}
use Rattle.std.specs.List.{flat_map}
use Rattle.rt0_rules.specs.Facts.{entities_in_part}
use Rattle.rt0_rules.proofs.members.push_part_entities.Given as goal

abbrev pub invariant-loop-part : goal.invariant-loop-part
invariant-loop-part l = l.entities.items ≡ l.fn.entities.items ++ flat_map entities_in_part (take l.part-index l.parts)
