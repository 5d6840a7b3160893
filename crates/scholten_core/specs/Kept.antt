-- What the fields of a `Diffusion` keep
use Rattle.std.specs.Prelude.{◌≡◌, ℕ, ◌+◌, ◌-◌, ◌<◌, ◌==◌, ◌&&◌, List, [], ◌∷◌, Option, None, Some, is_some, option_map}
use Rattle.std.specs.Prelude.{unwrap_or, slice_index_or, if◌then◌else◌}
use Rattle.std.specs.Ordering.{nat_cmp}
use Rattle.std.specs.FinMap as fin
use Rattle.std.specs.FinMap.{FinMap}
use Rattle.scholten_core.specs.declared.parents.Parent.{Parent}
use Rattle.scholten_core.specs.declared.parents.Parent.TheVariants.{Neutral, Environment, Node}
use Rattle.scholten_core.specs.declared.engagement.Engagement.{Engagement}
use Rattle.scholten_core.specs.Computation.{Computation, deficit, same_parent}
use Rattle.scholten_core.specs.LetterTable.{LetterTableState}
use Rattle.scholten_core.specs.Sound.{IsSound}

-- the engagement of a node: nobody engaged one whose place is empty, nor one past the end
abbrev pub engagement_of : List (Option Engagement) → ℕ → Option Engagement
engagement_of nodes n = slice_index_or nodes n None

-- the engaged nodes of places from k on, each with the one that engaged it
abbrev pub engaged_from : ℕ → List (Option Engagement) → FinMap nat_cmp Parent
engaged_from k [] = fin.empty
engaged_from k (None ∷ nodes) = engaged_from (k + 1) nodes
engaged_from k (Some e ∷ nodes) = fin.insert (engaged_from (k + 1) nodes) k e.parent

-- who engaged a node, by the fields
abbrev pub parent_kept : List (Option Engagement) → ℕ → Option Parent
parent_kept nodes n = option_map (λ e. e.parent) (engagement_of nodes n)

-- the count kept for one, 0 where none is kept
abbrev pub kept : ℕ → List (Option Engagement) → Parent → ℕ
kept owed m Neutral = 0
kept owed m Environment = owed
kept owed m (Node n) = unwrap_or (option_map (λ e. e.deficit) (engagement_of m n)) 0

-- who engaged one
abbrev pub engager : List (Option Engagement) → Parent → Option Parent
engager m (Node n) = parent_kept m n
engager m _ = None

-- 1 where two are the same, else 0
abbrev pub hit : Parent → Parent → ℕ
hit p q = if same_parent p q then 1 else 0

-- one receives a letter from another and sends so many; by is whom a signal goes to
pub record Receives (old new : List (Option Engagement)) (from : Parent) (to count : ℕ) (by : Option Parent) : Type 0 where
  pub same : (n : ℕ) → (n ≡ to → ⊥) → engagement_of new n ≡ engagement_of old n
  -- an engaged one is owed so many more
  pub engaged : (e : Engagement) → engagement_of old to ≡ Some e
      → (by ≡ Some from) × (engagement_of new to ≡ Some (record e { deficit = e.deficit + count }))
  -- a neutral one that sends any is engaged
  pub anew : engagement_of old to ≡ None → 0 < count
      → (by ≡ None) × (engagement_of new to ≡ Some (record { parent = from; deficit = count }))
  pub idle : engagement_of old to ≡ None → count ≡ 0 → (by ≡ Some from) × (engagement_of new to ≡ None)

-- a node is owed one less; by is whom a signal goes to
pub record Pays (old new : List (Option Engagement)) (node : ℕ) (by : Option Parent) : Type 0 where
  pub same : (n : ℕ) → (n ≡ node → ⊥) → engagement_of new n ≡ engagement_of old n
  pub paid : (e : Engagement) → engagement_of old node ≡ Some e → 1 < e.deficit
      → (by ≡ None) × (engagement_of new node ≡ Some (record e { deficit = e.deficit - 1 }))
  -- where it is then owed nothing it is let go
  pub gone : (e : Engagement) → engagement_of old node ≡ Some e → e.deficit ≡ 1
      → (by ≡ Some e.parent) × (engagement_of new node ≡ None)

-- anyone is owed one less, by the counts kept; by is whom a signal goes to
pub record Delivers (owed left : ℕ) (old new : List (Option Engagement)) (to : Parent) (by : Option Parent) : Type 0 where
  pub counts : (p : Parent) → kept left new p + hit p to ≡ kept owed old p
  pub signal : by ≡ (if kept left new to == 0 then engager old to else None)
  pub parents : (n : ℕ) → parent_kept new n ≡ (if same_parent to (Node n) && is_some by then None else parent_kept old n)

-- the computation that the fields hold
abbrev pub held_in : {P : Type 0} → LetterTableState P → List Parent → List (Option Engagement) → Computation P
held_in table signals nodes =
    record { sent = table.sent; letters = table.letters; signals = signals; engaged = engaged_from 0 nodes }

-- the fields hold a sound computation, and the counts beside it are its own
pub record IsKept {P : Type 0} (d : Computation P) (owed : ℕ) (nodes : List (Option Engagement)) : Type 0 where
  pub sound : IsSound d
  pub counts : (p : Parent) → kept owed nodes p ≡ deficit d p
