use Rattle.std.proofs.Common.{◌≡◌}
use Rattle.rt0_rules.specs.Facts.{all_entities, IsSound}
use Rattle.rt0_rules.proofs.Unknown.{unknown}
use Rattle.rt0_rules.proofs.members.all_known.Given as goal

abbrev pub invariant-loop-fact : goal.invariant-loop-fact
invariant-loop-fact l = IsSound l.credentials l.facts.items × (l.entities.items ≡ all_entities l.credentials)

abbrev pub decreases-loop-fact : goal.decreases-loop-fact
decreases-loop-fact l = unknown l.credentials l.entities.items l.facts.items
