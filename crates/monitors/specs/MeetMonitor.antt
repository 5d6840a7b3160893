-- What the monitor of an intersection is seen as, by name and by key, and what it hears
use Rattle.std.specs.Prelude.{ℕ, Bool, List, ◌≡◌, ◌<◌, ◌↔◌, IsTrue, refl, ◌+◌, ◌≤◌, true, false, [], ◌∷◌, ◌++◌, Option, Some, None}
use Rattle.std.specs.Prelude.{slice_index_or, nat_eq, Contains, map}
use Rattle.std.specs.declared.cmp.Ordering.{Ordering}
use Rattle.std.specs.Ordering.{nat_cmp, ordering_then}
use Rattle.std.specs.Coded.{Coded, code_by, coded×, coded_ℕ, coded_list}
use Rattle.std.specs.FinSet as set
use Rattle.std.specs.Cmp.Lexicographic.{pointwise}
use Rattle.std.specs.List.{IsDistinct}
use Rattle.std.specs.Map.{lookup, keys_of}
use Rattle.names.specs.Name.{name_order}
use Rattle.monitors.specs.declared.tellers.Tellers.{Tellers}

-- by part, then by entity
abbrev pub told_order : ℕ × List ℕ → ℕ × List ℕ → Ordering
told_order t u = ordering_then (nat_cmp t.0 u.0) (name_order t.1 u.1)

-- what an intersection was told: by which of its parts, which entity
pub record MeetTold : Type 0 where
  pub parts : ℕ
  pub told : set.FinSet told_order

-- a monitor is stored as its number of parts and the set of what they told
abbrev pub meet_code : Coded MeetTold
meet_code =
    let told_code : Coded (set.FinSet told_order) = set.code (coded× coded_ℕ (coded_list coded_ℕ)) in
    code_by (ℕ × set.FinSet told_order) (coded× coded_ℕ told_code)
    (λ m. (m.parts, m.told)) (λ p. record { parts = p.0; told = p.1 }) (λ _. refl)

-- the part has told the entity
abbrev pub HasTold : MeetTold → ℕ → List ℕ → Type 0
HasTold m part who = IsTrue (set.contains m.told (part, who))

-- each part has told the entity
abbrev pub AllTold : MeetTold → List ℕ → Type 0
AllTold m who = (part : ℕ) → part < m.parts → HasTold m part who

-- the same, with this told as well
abbrev pub with_tell : MeetTold → ℕ → List ℕ → MeetTold
with_tell m part who = record m { told = set.insert m.told (part, who) }

-- it was told this too, and the answer says whether that is new and with it the last of the parts has told the entity
abbrev pub HearsPart : MeetTold → MeetTold → ℕ → List ℕ → Bool → Type 0
HearsPart old new part who last = (new ≡ with_tell old part who) × (IsTrue last ↔ (AllTold new who × (HasTold old part who → ⊥)))

-- the pairs of a part, counted from this one, and the entity, where the part told it
abbrev pub pairs_from : ℕ → List Bool → List ℕ → List (ℕ × List ℕ)
pairs_from part [] who = []
pairs_from part (true ∷ told) who = (part, who) ∷ pairs_from (part + 1) told who
pairs_from part (false ∷ told) who = pairs_from (part + 1) told who

-- what the table holds, as pairs of part and entity
abbrev pub pairs_of : List (List ℕ × Tellers) → List (ℕ × List ℕ)
pairs_of [] = []
pairs_of (e ∷ es) = pairs_from 0 e.1.told e.0 ++ pairs_of es

-- whether the part is among the tellers, where there are any
abbrev pub is_among : ℕ → Option Tellers → Bool
is_among part None = false
is_among part (Some tellers) = slice_index_or tellers.told part false

-- whether the part told the entity
abbrev pub is_teller : List (List ℕ × Tellers) → ℕ → List ℕ → Bool
is_teller entries part who = is_among part (lookup (pointwise nat_eq who) entries)

-- there are 8 parts at most, each entity stands once, and only these parts told it
pub record AreTellers (parts : ℕ) (entries : List (List ℕ × Tellers)) : Type 0 where
  pub few : parts ≤ 8
  pub once : IsDistinct (pointwise nat_eq) (keys_of entries)
  pub within : (who : List ℕ) (part : ℕ) → parts ≤ part → is_teller entries part who ≡ false

-- for each entity, by its key, the parts that told it
pub record MeetLines (K : Type 0) : Type 0 where
  pub parts : ℕ
  pub lines : List (K × Tellers)

module _ {K : Type 0} where
  -- so many parts, with these lines
  abbrev pub lines_of : ℕ → List (K × Tellers) → MeetLines K
  lines_of parts lines = record { parts = parts; lines = lines }

  -- two of these keys don't stand for one name
  abbrev pub TellsApart : (K → List ℕ) → List K → Type 0
  TellsApart name keys = (a b : K) → Contains keys a → Contains keys b → name a ≡ name b → a ≡ b

  -- the lines, with names for keys
  abbrev pub named : (K → List ℕ) → List (K × Tellers) → List (List ℕ × Tellers)
  named name lines = map (λ e. (name e.0, e.1)) lines

  -- what it was told, by name
  abbrev pub told_by : (K → List ℕ) → MeetLines K → MeetTold
  told_by name m = record { parts = m.parts; told = set.from_list (pairs_of (named name m.lines)) }

  -- by any names that tell its keys apart, it hears what the monitor by name does
  abbrev pub HearsByName : MeetLines K → MeetLines K → ℕ → K → Bool → Type 0
  HearsByName old new part who last =
      (name : K → List ℕ) → TellsApart name (who ∷ keys_of old.lines)
      → HearsPart (told_by name old) (told_by name new) part (name who) last

  -- by any such names, the part hasn't told the entity
  pub record IsUntold (m : MeetLines K) (part : ℕ) (who : K) : Type 0 where
    pub untold : (name : K → List ℕ) → TellsApart name (who ∷ keys_of m.lines) → HasTold (told_by name m) part (name who) → ⊥

  -- no entity has a line now but this one and those that had one
  pub record HasKeysOf (old new : MeetLines K) (who : K) : Type 0 where
    pub known : (k : K) → Contains (keys_of new.lines) k → Contains (who ∷ keys_of old.lines) k

  -- there are 8 parts at most, and by any names that tell the keys apart, the lines are tellers
  pub record IsTable (parts : ℕ) (lines : List (K × Tellers)) : Type 0 where
    pub few : parts ≤ 8
    pub tellers : (name : K → List ℕ) → TellsApart name (keys_of lines) → AreTellers parts (named name lines)
