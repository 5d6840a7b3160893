-- Lists in order, each of their elements once.
use Rattle.std.specs.Prelude.{ℕ, not, List, [], ◌∷◌, ◌≡◌, ◌<◌, ◌≤◌, length, filter, Result, MatchResult}
use Rattle.std.specs.List.{HoldsAt}
use Rattle.std.specs.List.Sorted.{IsPartitionPoint}
use Rattle.std.specs.BTreeSet.{insert_key}
use Rattle.std.specs.Ordering.{eq_by_cmp}
use Rattle.std.specs.declared.cmp.Ordering.{Ordering}
use Rattle.std.specs.declared.cmp.Ordering.TheVariants.{Less, Equal, Greater}

-- the elements in order, each once: one after another goes to its place, unless an equal one stands there
abbrev pub in_order : {K : Type 0} → (K → K → Ordering) → List K → List K
in_order compare [] = []
in_order compare (x ∷ xs) = insert_key compare (in_order compare xs) x

-- the list without the element
abbrev pub without : {K : Type 0} → (K → K → Ordering) → K → List K → List K
without compare x xs = filter (λ y. not (eq_by_cmp compare x y)) xs

-- where the element stands, or between which elements it would stand
abbrev pub IsPlace : {K : Type 0} → (K → K → Ordering) → List K → K → Result ℕ ℕ → Type 0
IsPlace compare xs x place = MatchResult place
    (λ i. (i < length xs) × HoldsAt (λ y. compare y x ≡ Equal) xs i)
    (λ i. (i ≤ length xs) × IsPartitionPoint (λ y. compare y x ≡ Less) (λ y. compare y x ≡ Greater) xs i)
