-- A view, and whose it is.
use Rattle.std.specs.Prelude.{ℕ, List, ◌≡◌, map}
use Rattle.std.specs.List.{All, Contains}
use Rattle.std.specs.List.Sorted.{IsStrictlySortedBy}
use Rattle.names.specs.Name.{name_order}
use Rattle.credential_text.specs.Credential.{credential_order}
use Rattle.vaults.specs.Journal.{Vault}

-- whose view it is, and the vaults that are read
pub record SnapshotState : Type 0 where
  pub asker : List ℕ
  pub vaults : List Vault

abbrev pub owner_of : Vault → List ℕ
owner_of v = v.owner

-- owners stand in order, each once; each vault's rows are its owner's, in order, each once
pub record IsOrdered (view : List Vault) : Type 0 where
  pub owners : IsStrictlySortedBy name_order (map owner_of view)
  pub own : (v : Vault) → Contains view v → All (λ c. c.head.owner ≡ v.owner) v.rows
  pub rows : (v : Vault) → Contains view v → IsStrictlySortedBy credential_order v.rows
