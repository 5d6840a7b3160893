-- The roster that an input begins with, and how it is read.
use Rattle.std.specs.Prelude.{◌≡◌, ◌⊎◌, ⊤, ℕ, ◌<◌, ◌≤◌, List, [], ◌∷◌, ◌++◌, length, map, codes, Any, Some, Result, Ok, Err}
use Rattle.std.specs.List.{AllZip, IsDistinct}
use Rattle.names.specs.Name.{IsName, is_same}
use Rattle.quotas.specs.Quota.{Quota, IsQuota, usual_quota}
use Rattle.service.specs.declared.faults.ScriptFault.{ScriptFault, TheVariants.Roster}
use Rattle.service.specs.Line.{Line, text, commands_of}
use Rattle.service.specs.LineReader.{Source, known}
use Rattle.service.specs.Words.{words, number_of}

-- one tenant of a roster: its name, its word and its limits
pub record RosterLine : Type 0 where
  pub name : List ℕ
  pub word : List ℕ
  pub limits : Quota

-- no words are the usual limits, and six words these, in this order, each in its range
abbrev pub IsLimits : List (List ℕ) → Quota → Type 0
IsLimits ws q = ((ws ≡ []) × (q ≡ usual_quota))
    ⊎ ((map number_of ws ≡ map Some (q.creds ∷ q.grants ∷ q.searches ∷ q.changes ∷ q.opens ∷ q.work ∷ [])) × IsQuota q)

-- `tenant NAME WORD`, where the word has at most 64 bytes, and then the limits
pub record IsRow (line : List ℕ) (row : RosterLine) : Type 0 where
  pub numbers : List (List ℕ)
  pub by_words : words line ≡ codes "tenant" ∷ row.name ∷ row.word ∷ numbers
  pub is_name : IsName row.name
  pub short : length row.word ≤ 64
  pub limits : IsLimits numbers row.limits

-- the names of the tenants
abbrev pub names_of : List RosterLine → List (List ℕ)
names_of rows = map (λ row. row.name) rows

-- a roster has 1 to 1,000 tenants, each name once
pub record IsRoster (rows : List RosterLine) : Type 0 where
  pub distinct : IsDistinct is_same (names_of rows)
  pub some : 0 < length rows
  pub most : length rows ≤ 1000

-- the lines begin with a roster of these rows, one line for each, and then `begin`; and these follow it
pub record HasRoster (lines : List Line) (rows : List RosterLine) (rest : List Line) : Type 0 where
  pub texts : List (List ℕ)
  pub begin : List ℕ
  pub split : lines ≡ map text texts ++ text begin ∷ rest
  pub one_each : AllZip IsRow texts rows
  pub ends : words begin ≡ codes "begin" ∷ []
  pub roster : IsRoster rows

-- the lines begin with no roster
abbrev pub HasNoRoster : List Line → Type 0
HasNoRoster lines = (rows : List RosterLine) (rest : List Line) → HasRoster lines rows rest → ⊥

-- a tenant's name and its limits
abbrev pub tenant_of : RosterLine → List ℕ × Quota
tenant_of row = (row.name, row.limits)

-- some tenant has this name and this word
abbrev pub IsTenant : List RosterLine → List ℕ → List ℕ → Type 0
IsTenant rows name word = Any (λ row. (row.name ≡ name) × (row.word ≡ word)) rows

-- the roster was read, or there is none
abbrev pub ReadsRoster : List Line → Result (List RosterLine) ScriptFault → Source → Type 0
ReadsRoster lines (Ok rows) new = (rest : List ℕ) × (new ≡ known rest) × HasRoster lines rows (commands_of rest)
ReadsRoster lines (Err Roster) new = HasNoRoster lines
ReadsRoster lines (Err _) new = ⊤
