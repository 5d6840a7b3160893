use Rattle.std.proofs.Common.{◌≡◌, find, take, All, None}
use Rattle.rt0_rules.specs.Facts.{is_owed}
use Rattle.rt0_rules.proofs.facts.next_fact.Given as goal

abbrev pub invariant-loop-credential : goal.invariant-loop-credential
invariant-loop-credential l = All (λ c. find (is_owed l.facts c) l.entities ≡ None) (take l.credential-index l.credentials)
