-- What holds of every diffusing computation, and of its engaged nodes as a tree that grew node by node
use Rattle.std.specs.Prelude.{◌≡◌, ℕ, Bool, true, false, None, ◌<◌, ◌≤◌, List, [], ◌∷◌}
use Rattle.std.specs.Ordering.{nat_cmp}
use Rattle.std.specs.FinMap as fin
use Rattle.std.specs.FinMap.{FinMap}
use Rattle.scholten_core.specs.declared.parents.Parent.{Parent}
use Rattle.scholten_core.specs.declared.parents.Parent.TheVariants.{Neutral, Environment, Node}
use Rattle.scholten_core.specs.Computation.{Computation, deficit, outstanding}

-- whether one may send: the environment, and each engaged node
abbrev pub is_active : FinMap nat_cmp Parent → Parent → Bool
is_active m Neutral = false
is_active m Environment = true
is_active m (Node n) = fin.contains_key m n

-- no node, or a tree and one more node, engaged by the environment or by a node of that tree
pub data IsTree : FinMap nat_cmp Parent → Type 0 where
  bare : IsTree fin.empty
  grown : {m : FinMap nat_cmp Parent} → IsTree m → (n : ℕ) (by : Parent) → fin.get m n ≡ None → is_active m by ≡ true
      → (larger : FinMap nat_cmp Parent) → larger ≡ fin.insert m n by → IsTree larger

-- the numbers rise, all above low and none above high
abbrev pub IsNumbered : {X : Type 0} → ℕ → List (ℕ × X) → ℕ → Type 0
IsNumbered low [] high = low ≤ high
IsNumbered low (l ∷ ls) high = (low < l.0) × IsNumbered l.0 ls high

-- the laws of a diffusing computation
pub record IsSound {P : Type 0} (d : Computation P) : Type 0 where
  -- an engaged node is owed something
  pub busy : (n : ℕ) → fin.contains_key d.engaged n ≡ true → 0 < deficit d (Node n)
  -- whoever is neither the environment nor engaged is owed nothing
  pub idle : (p : Parent) → is_active d.engaged p ≡ false → deficit d p ≡ 0
  pub tree : IsTree d.engaged
  -- letters stand in order of number, and are numbered as they were sent
  pub numbers : IsNumbered 0 d.letters d.sent
  -- each letter sent is outstanding in one way at most: as a letter, as an engagement or as a signal
  pub one_each : outstanding d ≤ d.sent
