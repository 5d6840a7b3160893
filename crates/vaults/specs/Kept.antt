-- Entries as the bytes in which a journal keeps them, and that the bytes tell the entries.
use Rattle.std.specs.Prelude.{ℕ, List, [], ◌∷◌, ◌++◌, ◌≡◌, ◌/◌, ◌%◌, length}
use Rattle.std.specs.List.{flat_map, AllByRecursion}
use Rattle.names.specs.Name.{IsName}
use Rattle.credential_text.specs.Credential.{IsCredential}
use Rattle.credential_text.specs.Spelling.{canonical}
use Rattle.vaults.specs.declared.changes.Change.{Change}
use Rattle.vaults.specs.declared.changes.Change.TheVariants.{Upload, Withdraw, Grant, Revoke, GrantAll, RevokeAll}
use Rattle.vaults.specs.declared.changes.Entry.{Entry}

-- the number of each kind of change
abbrev pub kind_of : Change → ℕ
kind_of (Upload c) = 0
kind_of (Withdraw c) = 1
kind_of (Grant reader) = 2
kind_of (Revoke reader) = 3
kind_of GrantAll = 4
kind_of RevokeAll = 5

-- what a change is about, as text: its credential, its reader, or nothing where it is for all
abbrev pub subject_of : Change → List ℕ
subject_of (Upload c) = canonical c
subject_of (Withdraw c) = canonical c
subject_of (Grant reader) = reader
subject_of (Revoke reader) = reader
subject_of GrantAll = []
subject_of RevokeAll = []

-- a text behind its length, which has two bytes
abbrev pub framed : List ℕ → List ℕ
framed text = (length text / 256) ∷ (length text % 256) ∷ text

-- a kind, a tenant and a subject, one behind the other
abbrev pub row_bytes : ℕ → List ℕ → List ℕ → List ℕ
row_bytes kind tenant subject = kind ∷ framed tenant ++ framed subject

-- an entry as bytes
unfoldable pub entry_bytes : Entry → List ℕ
entry_bytes e = row_bytes (kind_of e.change) e.tenant (subject_of e.change)

-- entries as bytes, one behind the other
abbrev pub journal_bytes : List Entry → List ℕ
journal_bytes entries = flat_map entry_bytes entries

-- every name in the change is one
abbrev pub HasNames : Change → Type 0
HasNames (Upload c) = IsCredential c
HasNames (Withdraw c) = IsCredential c
HasNames (Grant reader) = IsName reader
HasNames (Revoke reader) = IsName reader
HasNames GrantAll = Unit {0}
HasNames RevokeAll = Unit {0}

-- every name in the entry is one
abbrev pub IsNamed : Entry → Type 0
IsNamed e = IsName e.tenant × HasNames e.change

-- the bytes are these entries
abbrev pub AreKept : List ℕ → List Entry → Type 0
AreKept bytes entries = AllByRecursion IsNamed entries × (bytes ≡ journal_bytes entries)

-- the entries that the bytes are
abbrev pub Kept : List ℕ → Type 0
Kept bytes = (entries : List Entry) × AreKept bytes entries

-- what a change is about, where the text of its credential stands in a draft
abbrev pub drafted : Change → List ℕ → List ℕ
drafted (Upload c) draft = draft
drafted (Withdraw c) draft = draft
drafted (Grant reader) draft = reader
drafted (Revoke reader) draft = reader
drafted GrantAll draft = []
drafted RevokeAll draft = []
