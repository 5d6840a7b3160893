-- A diffusing computation, and what of it is outstanding (Dijkstra and Scholten, 1980)
use Rattle.std.specs.Prelude.{◌≡◌, ◌↔◌, ℕ, ◌+◌, ◌==◌, Bool, true, false, not, List, Option, Some, length, filter, count_by}
use Rattle.std.specs.Prelude.{unwrap_or, Contains, IsSomeAnd, IsTrue}
use Rattle.std.specs.Map.{lookup}
use Rattle.std.specs.Ordering.{nat_cmp}
use Rattle.std.specs.FinMap as fin
use Rattle.std.specs.FinMap.{FinMap}
use Rattle.scholten_core.specs.declared.parents.Parent.{Parent}
use Rattle.scholten_core.specs.declared.parents.Parent.TheVariants.{Neutral, Environment, Node}
use Rattle.scholten_core.specs.declared.letters.Letter.{Letter}

-- The letters that wait or are held, each with its number, in order of number; the signals under
-- way, oldest first, each by the one that it goes to; the engaged nodes, each with the one that
-- engaged it; and how many letters were ever sent.
pub record Computation (P : Type 0) : Type 0 where
  pub sent : ℕ
  pub letters : List (ℕ × Letter P)
  pub signals : List Parent
  pub engaged : FinMap nat_cmp Parent

-- whether two are one and the same
abbrev pub same_parent : Parent → Parent → Bool
same_parent Neutral Neutral = true
same_parent Environment Environment = true
same_parent (Node m) (Node n) = m == n
same_parent _ _ = false

module _ {P : Type 0} where
  -- the letters that wait, in order of number
  abbrev pub waiting : List (ℕ × Letter P) → List (ℕ × Letter P)
  waiting letters = filter (λ l. not l.1.held) letters

  -- the letter of a number, where it waits or is held
  abbrev pub letter_of : Computation P → ℕ → Option (Letter P)
  letter_of d number = lookup (λ n. n == number) d.letters

  -- the letter of a number is there and is held
  abbrev pub IsHeld : List (ℕ × Letter P) → ℕ → Type 0
  IsHeld letters number = IsSomeAnd (lookup (λ n. n == number) letters) (λ l. IsTrue l.held)

  -- a letter stands in the list under a number exactly where it is the letter of that number
  abbrev pub StandByNumber : Computation P → Type 0
  StandByNumber d = (number : ℕ) (l : Letter P) → Contains d.letters (number, l) ↔ (letter_of d number ≡ Some l)

  -- who engaged a node; a node that nobody engaged is neutral
  abbrev pub parent_of : Computation P → ℕ → Parent
  parent_of d n = unwrap_or (fin.get d.engaged n) Neutral

  -- what one is owed: the letters that it sent and that wait or are held, the signals coming to it,
  -- and the nodes engaged by it
  abbrev pub deficit : Computation P → Parent → ℕ
  deficit d p =
      count_by (λ l. same_parent p l.1.from) d.letters
      + count_by (same_parent p) d.signals
      + count_by (same_parent p) (fin.values d.engaged)

  -- how much is outstanding: letters waiting or held, signals under way, engaged nodes
  abbrev pub outstanding : Computation P → ℕ
  outstanding d = length d.letters + length d.signals + fin.len d.engaged
