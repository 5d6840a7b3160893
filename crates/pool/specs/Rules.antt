-- What a seat of the history knows, and what its steps tell.
use Rattle.std.specs.Prelude.{◌≡◌, ◌<◌, ◌≤◌, ℕ, true, false, List, [], ◌∷◌, ◌++◌}
use mathlib.Core.List.{IsPrefix}
use mathlib.Core.Option.{some}
use lib.ListN.{get_elem?}
use Rattle.atomic_table.specs.Table.{Me, Step}
use Rattle.atomic_table.specs.Seated.{TableId}
use Rattle.pool.specs.declared.{turns.Item.Item, seats.Knows.Knows}
use Rattle.pool.specs.Histories.{own_of}

-- what names the ledgers, the history and the rights of a desk
pub record Names : Type 0 where
  pub ledger : ℕ
  pub parts : ℕ
  pub table : TableId
  pub letters : ℕ
  pub rights : ℕ

-- the seat that knows all that was told, and how many names were drawn
abbrev pub keeper : ℕ → List Item → Knows
keeper drawn all = record { keeps = true; drawn = drawn; all = all; named = false; name = 0; seen = [] }

-- a seat that adds under a name, and has seen a beginning
abbrev pub adds_under : ℕ → List Item → Knows
adds_under name seen = record { keeps = false; drawn = 0; all = []; named = true; name = name; seen = seen }

-- what the rule says of one seat: a name that was drawn is of one seat at most, and that has seen all items of it
abbrev pub Fits : ℕ → ℕ → List Item → (ℕ → ℕ) → ℕ → Knows → Type 0
Fits seat drawn history owner by v =
    (v.keeps ≡ true → (by ≡ seat) × (v.drawn ≡ drawn) × (v.all ≡ history))
    × (v.named ≡ true → (v.name < drawn) × (by ≡ owner v.name) × (own_of v.name v.seen ≡ own_of v.name history))
    × IsPrefix v.seen history

-- one seat at most knows the whole history, all others have seen beginnings of it, and each adds under a name of its own
abbrev pub IsKept : List Knows → Type 0
IsKept views =
    (seat : ℕ) × (drawn : ℕ) × (history : List Item) × (owner : (ℕ → ℕ))
    × ((by : ℕ) (v : Knows) → get_elem? views by ≡ some v → Fits seat drawn history owner by v)

-- each item of the history has a name that was drawn
abbrev pub AreNamed : ℕ → List Item → Type 0
AreNamed drawn all = (name : ℕ) → drawn ≤ name → own_of name all ≡ []

-- the keeper adds an item, and has compared a beginning with all, and the items of its name with all of that name
abbrev pub Adds : Item → Step ℕ → Me ℕ Knows → ℕ → Me ℕ Knows → Type 0
Adds i s v found w = (w.0 ≡ record v.0 { all = v.0.all ++ i ∷ []; seen = v.0.all ++ i ∷ [] }) × (w.1 ≡ v.1)
    × IsPrefix v.0.seen v.0.all × (v.0.name < v.0.drawn) × (own_of v.0.name v.0.all ≡ own_of v.0.name v.0.seen)
