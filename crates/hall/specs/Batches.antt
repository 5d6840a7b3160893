-- Letters of one search that are taken in a row, looked up, and handed in together.
use Rattle.std.specs.Prelude.{ℕ, ◌≤◌, List, [], ◌∷◌, ◌≡◌, length, Option, Some, None}
use Rattle.std.specs.{List.AllWithin, Arc.arc_value}
use Rattle.snapshots.specs.Snapshot.{SnapshotState}
use Rattle.search.specs.{declared.queries.Need.Need, Finish.right_hint}
use Rattle.hall.specs.declared.batches.{HeldLetter.HeldLetter, NamedSearch.NamedSearch}

-- a search by its tenant and its number, and what it reads
pub record Named : Type 0 where
  pub who : List ℕ
  pub number : ℕ
  pub snapshot : SnapshotState

-- which search the letters are of; these in the order taken, each with what it needs; how many, from the first on, are looked up; the room
pub record BatchState : Type 0 where
  pub of : Option Named
  pub letters : List (ℕ × Need)
  pub looked : ℕ
  pub room : ℕ

abbrev pub named : NamedSearch → Named
named of = record { who = of.who; number = of.number; snapshot = arc_value of.snapshot }

abbrev pub name_of : Named → List ℕ × ℕ
name_of of = (of.who, of.number)

abbrev pub letter_of : HeldLetter → ℕ × Need
letter_of e = (e.letter, e.need)

-- the hint is the one that the letter needs
abbrev pub IsLookedUpIn : NamedSearch → HeldLetter → Type 0
IsLookedUpIn of e = e.hint ≡ right_hint (arc_value of.snapshot).vaults e.need

-- a search is named where there are letters of it, and those that are looked up have their right hints
abbrev pub IsBatch : Option NamedSearch → List HeldLetter → ℕ → Type 0
IsBatch None held_letters looked = (held_letters ≡ []) × (looked ≡ 0)
IsBatch (Some of) held_letters looked =
    (held_letters ≡ [] → ⊥) × (looked ≤ length held_letters) × AllWithin (IsLookedUpIn of) held_letters 0 looked

-- these letters of that search, none of which is looked up yet; without a letter no search is named
abbrev pub batch_of : Named → List (ℕ × Need) → ℕ → BatchState
batch_of of [] room = record { of = None; letters = []; looked = 0; room = room }
batch_of of (l ∷ ls) room = record { of = Some of; letters = l ∷ ls; looked = 0; room = room }

abbrev pub IsEmpty : BatchState → Type 0
IsEmpty b = b ≡ record { of = None; letters = []; looked = 0; room = b.room }

abbrev pub IsLookedUp : BatchState → Type 0
IsLookedUp b = b.looked ≡ length b.letters
