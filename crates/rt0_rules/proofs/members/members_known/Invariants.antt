use Rattle.std.proofs.Common.{ℕ, List, ◌≡◌, take}
use Rattle.std.specs.BTreeSet.{contains}
use Rattle.names.specs.Name.{name_order}
use Rattle.rt0_rules.specs.Facts.{knows}
use Rattle.rt0_rules.proofs.members.members_known.Given as goal

abbrev pub invariant-loop-fact : goal.invariant-loop-fact
invariant-loop-fact l = (d : List ℕ) → contains name_order l.members d ≡ knows (take l.fact-index l.facts) l.role d
