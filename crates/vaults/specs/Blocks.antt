-- Rows of a vault in order, in blocks of which the last one comes first.
use Rattle.std.specs.Prelude.{ℕ, Bool, true, false, List, [], ◌∷◌, ◌++◌, ◌≡◌, ◌+◌, ◌<◌, ◌≤◌, length, Some}
use Rattle.std.specs.List.{slice_get}
use Rattle.std.specs.List.Sorted.{IsStrictlySortedBy}
use Rattle.std.specs.Ordering.{is_lt}
use Rattle.credential_text.specs.declared.credentials.Credential.{Credential}
use Rattle.credential_text.specs.Credential.{credential_order}

-- a block's rows stand in order, and there is one at least
pub record IsBlock (rows : List Credential) : Type 0 where
  pub some : 0 < length rows
  pub in_order : IsStrictlySortedBy credential_order rows

-- the rows of the blocks
abbrev pub rows_in : List (List Credential) → List Credential
rows_in [] = []
rows_in (b ∷ bs) = rows_in bs ++ b

-- how many rows stand before each block
abbrev pub starts_of : List (List Credential) → List ℕ
starts_of [] = []
starts_of (b ∷ bs) = length (rows_in bs) ∷ starts_of bs

-- the first of the rows is above the credential
abbrev pub begins_above : Credential → List Credential → Bool
begins_above c [] = false
begins_above c (d ∷ rows) = is_lt (credential_order c d)

-- the block before the spot, if there is one, begins above the credential
abbrev pub IsAboveBefore : Credential → ℕ → List (List Credential) → Type 0
IsAboveBefore c spot blocks =
    (before : ℕ) (b : List Credential) → before + 1 ≡ spot → slice_get blocks before ≡ Some b → begins_above c b ≡ true

-- the block at the spot doesn't, unless none comes behind it in the list
abbrev pub IsNotAboveAt : Credential → ℕ → List (List Credential) → Type 0
IsNotAboveAt c spot blocks =
    (b : List Credential) → spot + 1 < length blocks → slice_get blocks spot ≡ Some b → (0 < length b) × (begins_above c b ≡ false)

-- which of the blocks the credential is in or would be put into
pub record IsSpot (c : Credential) (spot : ℕ) (blocks : List (List Credential)) : Type 0 where
  pub within : spot < length blocks
  pub before : IsAboveBefore c spot blocks
  pub there : IsNotAboveAt c spot blocks

-- the start before the spot, if there is one, is behind the place
abbrev pub IsBehindBefore : ℕ → ℕ → List ℕ → Type 0
IsBehindBefore place spot starts = (before s : ℕ) → before + 1 ≡ spot → slice_get starts before ≡ Some s → place < s

-- the start at the spot isn't, unless none comes behind it in the list
abbrev pub IsNotBehindAt : ℕ → ℕ → List ℕ → Type 0
IsNotBehindAt place spot starts = (s : ℕ) → spot + 1 < length starts → slice_get starts spot ≡ Some s → s ≤ place

-- which of the blocks, by where they start, has the place
pub record IsHolder (place spot : ℕ) (starts : List ℕ) : Type 0 where
  pub within : spot < length starts
  pub before : IsBehindBefore place spot starts
  pub there : IsNotBehindAt place spot starts

-- the rows stand in order, and they are counted
pub record AreOwnRows (rows : List Credential) (count : ℕ) : Type 0 where
  pub in_order : IsStrictlySortedBy credential_order rows
  pub counted : count ≡ length rows

-- the rows stand in order, with each block stands where it starts, and they are counted
pub record IsVersion (blocks : List (List Credential)) (starts : List ℕ) (count : ℕ) : Type 0 where
  pub in_order : IsStrictlySortedBy credential_order (rows_in blocks)
  pub start : starts ≡ starts_of blocks
  pub counted : count ≡ length (rows_in blocks)
