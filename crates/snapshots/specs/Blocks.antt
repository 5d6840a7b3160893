-- Which block of rows a cut goes through.
use Rattle.std.specs.Prelude.{ℕ, Bool, true, false, List, [], ◌∷◌, Some, ◌≡◌, ◌+◌, ◌<◌, length}
use Rattle.std.specs.List.{slice_get}
use Rattle.credential_text.specs.declared.credentials.Credential.{Credential}

-- there is a first row, and it passes
abbrev pub starts_with : (Credential → Bool) → List Credential → Bool
starts_with p [] = false
starts_with p (c ∷ rows) = p c

-- the block before the spot in the list, if there is one, begins with a row that fails
abbrev pub EndsBefore : (Credential → Bool) → ℕ → List (List Credential) → Type 0
EndsBefore p spot blocks =
    (before : ℕ) (b : List Credential) → before + 1 ≡ spot → slice_get blocks before ≡ Some b → (0 < length b) × (starts_with p b ≡ false)

-- the block at the spot begins with one that passes, unless none comes behind it in the list
abbrev pub BeginsAt : (Credential → Bool) → ℕ → List (List Credential) → Type 0
BeginsAt p spot blocks = (b : List Credential) → spot + 1 < length blocks → slice_get blocks spot ≡ Some b → starts_with p b ≡ true

-- of the blocks, of which the last one comes first, the one with the end of those rows that pass
pub record IsCutThrough (p : Credential → Bool) (spot : ℕ) (blocks : List (List Credential)) : Type 0 where
  pub within : spot < length blocks
  pub before : EndsBefore p spot blocks
  pub there : BeginsAt p spot blocks
