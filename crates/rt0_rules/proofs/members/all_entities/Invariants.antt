use Rattle.std.proofs.Common.{◌≡◌, take}
use Rattle.rt0_rules.specs.Facts.{all_entities}
use Rattle.rt0_rules.proofs.members.all_entities.Given as goal

abbrev pub invariant-loop-credential : goal.invariant-loop-credential
invariant-loop-credential l = l.entities.items ≡ all_entities (take l.credential-index l.credentials)
