-- What a journal means, as which a book is seen: every question about it is answered by the last entry on its subject.
use Rattle.std.specs.Prelude.{ℕ, Bool, true, false, not, ◌≡◌, ◌+◌, ◌&&◌, ◌||◌, if◌then◌else◌, Option, Some, None}
use Rattle.std.specs.Prelude.{List, [], ◌∷◌, ◌++◌, length, map, filter, find, reverse, take}
use Rattle.std.specs.List.{filter_map, slice_get}
use Rattle.std.specs.Option.{option_map_or}
use Rattle.std.specs.Ordering.{eq_by_cmp}
use Rattle.names.specs.Name.{is_same, name_order}
use Rattle.credential_text.specs.declared.credentials.Credential.{Credential}
use Rattle.credential_text.specs.Credential.{credential_order}
use Rattle.vaults.specs.declared.changes.Change.{Change}
use Rattle.vaults.specs.declared.changes.Change.TheVariants.{Upload, Withdraw, Grant, Revoke, GrantAll, RevokeAll}
use Rattle.vaults.specs.declared.changes.Entry.{Entry}
use Rattle.vaults.specs.declared.marks.Seen.{Seen}
use Rattle.vaults.specs.declared.faults.VaultFault.{VaultFault}
use Rattle.vaults.specs.declared.faults.VaultFault.TheVariants.{NotIssuer, AlreadyHeld, NotHeld}
use Rattle.vaults.specs.declared.faults.VaultFault.TheVariants.{AlreadyGranted, NotGranted, GrantSelf}
use Rattle.vaults.specs.InOrder.{in_order}

-- the change that gives what this one gives or takes back
abbrev pub gift : Change → Change
gift (Withdraw c) = Upload c
gift (Revoke reader) = Grant reader
gift RevokeAll = GrantAll
gift change = change

-- both give the same: the same credential to the vault, or reading to the same reader or to all
abbrev pub gives_same : Change → Change → Bool
gives_same (Upload c) (Upload d) = eq_by_cmp credential_order c d
gives_same (Grant reader) (Grant other) = is_same reader other
gives_same GrantAll GrantAll = true
gives_same _ _ = false

-- the tenant's own entries, in order
abbrev pub entries_of : List ℕ → List Entry → List Entry
entries_of tenant journal = filter (λ e. is_same e.tenant tenant) journal

-- the owner's last entry that gives or takes back what the change gives is one that gives it
abbrev pub stands : List Entry → List ℕ → Change → Bool
stands journal owner change = option_map_or (λ e. gives_same e.change change)
    (find (λ e. gives_same (gift e.change) change) (reverse (entries_of owner journal))) false

-- the owner's upload of the credential stands
abbrev pub holds : List Entry → List ℕ → Credential → Bool
holds journal owner c = stands journal owner (Upload c)

-- the owner's grant to the reader stands
abbrev pub granted : List Entry → List ℕ → List ℕ → Bool
granted journal owner reader = stands journal owner (Grant reader)

-- the owner's grant to all readers stands
abbrev pub is_public : List Entry → List ℕ → Bool
is_public journal owner = stands journal owner GrantAll

-- the change ends what one reader or all readers were granted
abbrev pub revokes : Change → Bool
revokes (Revoke reader) = true
revokes RevokeAll = true
revokes _ = false

-- the credential that the change uploads
abbrev pub uploaded : Change → Option Credential
uploaded (Upload c) = Some c
uploaded _ = None

-- the reader whom the change grants
abbrev pub named_reader : Change → Option (List ℕ)
named_reader (Grant reader) = Some reader
named_reader _ = None

-- the reader reads the owner's vault: its own, one that it is granted, or one that is public
abbrev pub reads : List Entry → List ℕ → List ℕ → Bool
reads journal reader owner = is_same owner reader || (granted journal owner reader || is_public journal owner)

-- the credentials that the owner issues and holds, in order, each once
unfoldable pub vault : List Entry → List ℕ → List Credential
vault journal owner = in_order credential_order
    (filter (λ c. is_same c.head.owner owner && holds journal owner c)
    (filter_map (λ e. uploaded e.change) (entries_of owner journal)))

-- the readers that the owner has granted, in order, each once
unfoldable pub readers : List Entry → List ℕ → List (List ℕ)
readers journal owner =
    in_order name_order (filter (granted journal owner) (filter_map (λ e. named_reader e.change) (entries_of owner journal)))

-- one where it holds
abbrev pub one_if : Bool → ℕ
one_if true = 1
one_if false = 0

-- how many grants of the owner stand: one for each reader that it has granted, and one for public reading
abbrev pub grant_count : List Entry → List ℕ → ℕ
grant_count journal owner = length (readers journal owner) + one_if (is_public journal owner)

-- the names that the reader reads, in order, each once and with its mark: whether its vault is public
unfoldable pub marked_names : List Entry → List ℕ → List Seen
marked_names journal reader = map (λ owner. record { name = owner; to_all = is_public journal owner })
    (in_order name_order (filter (reads journal reader) (reader ∷ map (λ e. e.tenant) journal)))

-- the names alone
abbrev pub names_in : List Seen → List (List ℕ)
names_in seen = map (λ s. s.name) seen

-- one owner of a view, with the credentials that it issues and holds
pub record Vault : Type 0 where
  pub owner : List ℕ
  pub rows : List Credential

-- what the reader sees: the names that it reads, in order, each with its vault
unfoldable pub view : List Entry → List ℕ → List Vault
view journal reader = map (λ s. record { owner = s.name; rows = vault journal s.name }) (marked_names journal reader)

-- all credentials of a view
abbrev pub credentials : List Vault → List Credential
credentials [] = []
credentials (v ∷ vs) = v.rows ++ credentials vs

-- the journal's refusal of a change, if it has one
abbrev pub refusal : List Entry → List ℕ → Change → Option VaultFault
refusal journal who (Upload c) =
    if not (is_same c.head.owner who) then Some NotIssuer
    else (if holds journal who c then Some AlreadyHeld else None)
refusal journal who (Withdraw c) =
    if not (is_same c.head.owner who) then Some NotIssuer
    else (if holds journal who c then None else Some NotHeld)
refusal journal who (Grant reader) =
    if is_same reader who then Some GrantSelf
    else (if granted journal who reader then Some AlreadyGranted else None)
refusal journal who (Revoke reader) =
    if not (is_same reader who) && granted journal who reader then None else Some NotGranted
refusal journal who GrantAll = if is_public journal who then Some AlreadyGranted else None
refusal journal who RevokeAll = if is_public journal who then None else Some NotGranted

-- every entry is an accepted change: nothing that stood before it refuses it
abbrev pub AreAccepted : List Entry → Type 0
AreAccepted journal = (n : ℕ) (e : Entry) → slice_get journal n ≡ Some e → refusal (take n journal) e.tenant e.change ≡ None
