-- What holds of vaults, readers and views by their definitions alone.
use Rattle.std.specs.Prelude.{ℕ, List, [], ◌∷◌, ◌++◌, ◌≡◌, ◌≢◌, ◌↔◌, IsTrue, map}
use Rattle.std.specs.List.{Contains}
use Rattle.std.specs.List.Sorted.{IsStrictlySortedBy}
use Rattle.names.specs.Name.{name_order}
use Rattle.credential_text.specs.declared.credentials.Credential.{Credential}
use Rattle.credential_text.specs.Credential.{credential_order}
use Rattle.vaults.specs.declared.changes.Change.{Change}
use Rattle.vaults.specs.declared.changes.Change.TheVariants.{Grant, Revoke, GrantAll, RevokeAll}
use Rattle.vaults.specs.declared.changes.Entry.{Entry}
use Rattle.vaults.specs.declared.marks.Seen.{Seen}
use Rattle.vaults.specs.Journal.{entries_of, holds, granted, is_public, grant_count, reads, refusal, AreAccepted}
use Rattle.vaults.specs.Journal.{vault, readers, marked_names, names_in}
use Rattle.vaults.specs.Journal.{Vault, view, credentials}

-- the list is in the order, each element once, and has exactly what the fact holds of
pub record ListsInOrder {K : Type 0} (InOrder : List K → Type 0) (P : K → Type 0) (xs : List K) : Type 0 where
  pub in_order : InOrder xs
  pub exact : (x : K) → Contains xs x ↔ P x

-- a vault has exactly the credentials that its owner issues and holds
abbrev pub VaultsAreExact : Type 0
VaultsAreExact = (journal : List Entry) (owner : List ℕ) →
    ListsInOrder (IsStrictlySortedBy credential_order) (λ c. (c.head.owner ≡ owner) × IsTrue (holds journal owner c))
    (vault journal owner)

-- the readers are exactly those that the owner has granted
abbrev pub ReadersAreExact : Type 0
ReadersAreExact = (journal : List Entry) (owner : List ℕ) →
    ListsInOrder (IsStrictlySortedBy name_order) (λ reader. IsTrue (granted journal owner reader)) (readers journal owner)

-- the names read are exactly those that the reader reads
abbrev pub NamesReadAreExact : Type 0
NamesReadAreExact = (journal : List Entry) (reader : List ℕ) →
    ListsInOrder (IsStrictlySortedBy name_order) (λ owner. IsTrue (reads journal reader owner))
    (names_in (marked_names journal reader))

-- a view has the names read, in their order, and each has its vault
abbrev pub ViewsAreOfNamesRead : Type 0
ViewsAreOfNamesRead = (journal : List Entry) (reader : List ℕ) →
    (map (λ v. v.owner) (view journal reader) ≡ names_in (marked_names journal reader))
    × ((v : Vault) → Contains (view journal reader) v → v.rows ≡ vault journal v.owner)

-- each mark says whether the vault is public
abbrev pub MarksAreExact : Type 0
MarksAreExact = (journal : List Entry) (reader : List ℕ) (s : Seen) →
    Contains (marked_names journal reader) s → s.to_all ≡ is_public journal s.name

-- a public vault is read by everybody
abbrev pub PublicIsRead : Type 0
PublicIsRead = (journal : List Entry) (reader owner : List ℕ) → IsTrue (is_public journal owner) → IsTrue (reads journal reader owner)

-- a grant to a reader and public reading don't touch one another
abbrev pub GrantsAreApart : Type 0
GrantsAreApart = (journal : List Entry) (who owner reader other : List ℕ) →
    (granted (journal ++ record { tenant = who; change = GrantAll } ∷ []) owner reader ≡ granted journal owner reader)
    × (granted (journal ++ record { tenant = who; change = RevokeAll } ∷ []) owner reader ≡ granted journal owner reader)
    × (is_public (journal ++ record { tenant = who; change = Grant other } ∷ []) owner ≡ is_public journal owner)
    × (is_public (journal ++ record { tenant = who; change = Revoke other } ∷ []) owner ≡ is_public journal owner)

-- the credentials of a view are exactly those that their issuer holds and the reader reads
abbrev pub ViewsAreExact : Type 0
ViewsAreExact = (journal : List Entry) (reader : List ℕ) (c : Credential) →
    Contains (credentials (view journal reader)) c
    ↔ (IsTrue (reads journal reader c.head.owner) × IsTrue (holds journal c.head.owner c))

-- what a tenant holds by accepted changes it issues
abbrev pub HeldAreIssued : Type 0
HeldAreIssued = (journal : List Entry) (owner : List ℕ) (c : Credential) → AreAccepted journal →
    IsTrue (holds journal owner c) → c.head.owner ≡ owner

-- nobody grants itself by accepted changes
abbrev pub GrantedAreOthers : Type 0
GrantedAreOthers = (journal : List Entry) (owner reader : List ℕ) → AreAccepted journal →
    IsTrue (granted journal owner reader) → reader ≢ owner

-- whether a tenant holds a credential is said by its own entries alone
abbrev pub HoldingIsOwn : Type 0
HoldingIsOwn = (journal : List Entry) (tenant : List ℕ) (c : Credential) →
    holds (entries_of tenant journal) tenant c ≡ holds journal tenant c

-- whether it granted a reader, by its own entries alone
abbrev pub GrantingIsOwn : Type 0
GrantingIsOwn = (journal : List Entry) (tenant reader : List ℕ) →
    granted (entries_of tenant journal) tenant reader ≡ granted journal tenant reader

-- whether its vault is public, by its own entries alone
abbrev pub PublishingIsOwn : Type 0
PublishingIsOwn = (journal : List Entry) (tenant : List ℕ) → is_public (entries_of tenant journal) tenant ≡ is_public journal tenant

-- its vault, by its own entries alone
abbrev pub VaultsAreOwn : Type 0
VaultsAreOwn = (journal : List Entry) (tenant : List ℕ) → vault (entries_of tenant journal) tenant ≡ vault journal tenant

-- whom it granted, by its own entries alone
abbrev pub ReadersAreOwn : Type 0
ReadersAreOwn = (journal : List Entry) (tenant : List ℕ) → readers (entries_of tenant journal) tenant ≡ readers journal tenant

-- how many of its grants stand, by its own entries alone
abbrev pub GrantCountsAreOwn : Type 0
GrantCountsAreOwn = (journal : List Entry) (tenant : List ℕ) → grant_count (entries_of tenant journal) tenant ≡ grant_count journal tenant

-- what a change of it is refused for, by its own entries alone
abbrev pub RefusalsAreOwn : Type 0
RefusalsAreOwn = (journal : List Entry) (tenant : List ℕ) (change : Change) →
    refusal (entries_of tenant journal) tenant change ≡ refusal journal tenant change
