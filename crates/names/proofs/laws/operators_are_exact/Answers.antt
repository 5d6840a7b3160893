use Rattle.std.proofs.Common.{◌≡◌, rules, refl, Some}
use Rattle.std.specs.declared.cmp.Ordering.{Ordering}
use Rattle.std.specs.declared.cmp.Ordering.TheVariants.{Less, Equal, Greater}
use Rattle.std.specs.Ordering.{ordering_then, partial_ordering_then}
use Rattle.names.proofs.laws.operators_are_exact.Goals as goal

some_then : (a b : Ordering) → partial_ordering_then (Some a) (Some b) ≡ Some (ordering_then a b)
some_then Less b = refl
some_then Equal b = refl
some_then Greater b = refl

pub returns-clause-roles : goal.returns-clause-roles
returns-clause-roles c = record { same = search rules; partial = λ x y. some_then _ _; total = λ x y. refl }

pub returns-clause-role_hash : goal.returns-clause-role_hash
returns-clause-role_hash c r = refl
