-- What a journal owes: the bytes of the entries that take back what stands.
use Rattle.std.specs.Prelude.{ℕ, Bool, true, false, not, ◌+◌, ◌*◌, ◌<◌, ◌≤◌, ◌≡◌, ◌&&◌, List, [], ◌∷◌, length, if◌then◌else◌}
use Rattle.std.specs.List.{list_any}
use Rattle.names.specs.Name.{is_same, IsName}
use Rattle.vaults.specs.declared.changes.Change.{Change}
use Rattle.vaults.specs.declared.changes.Change.TheVariants.{Upload, Withdraw, Grant, Revoke, GrantAll, RevokeAll}
use Rattle.vaults.specs.declared.changes.Entry.{Entry}
use Rattle.vaults.specs.Journal.{gift, gives_same}
use Rattle.vaults.specs.Kept.{subject_of, entry_bytes, drafted, HasNames}

-- the change gives what another takes back
abbrev pub gives : Change → Bool
gives (Upload c) = true
gives (Withdraw c) = false
gives (Grant reader) = true
gives (Revoke reader) = false
gives GrantAll = true
gives RevokeAll = false

-- the other entry is of the same tenant, and gives or takes back the same
abbrev pub follows : Entry → Entry → Bool
follows e other = is_same other.tenant e.tenant && gives_same (gift other.change) (gift e.change)

-- the entry gives something, and no later one gives it or takes it back
abbrev pub lasts : Entry → List Entry → Bool
lasts e later = gives e.change && not (list_any (follows e) later)

-- for each entry that lasts as many bytes as it has itself, since the one that takes it back has as many
abbrev pub owed : List Entry → ℕ
owed [] = 0
owed (e ∷ later) = (if lasts e later then length (entry_bytes e) else 0) + owed later

-- the tenant's change may be entered: its text is there, and where it gives something there is room for its entry and for the
-- one that takes it back, beside the room that is kept already
pub record IsPrepared (who : List ℕ) (change : Change) (draft : List ℕ) (room len capacity : ℕ) : Type 0 where
  pub subject : drafted change draft ≡ subject_of change
  pub tenant_named : IsName who
  pub change_named : HasNames change
  pub makes : gives change ≡ true → len + (room + 2 * (length who + length (subject_of change) + 5)) ≤ capacity

-- the change is about a credential, whose text is written before it is entered
abbrev pub has_text : Change → Bool
has_text (Upload c) = true
has_text (Withdraw c) = true
has_text (Grant reader) = false
has_text (Revoke reader) = false
has_text GrantAll = false
has_text RevokeAll = false

-- the tenant's change gives something, and there isn't the room that it has to be prepared with
abbrev pub LacksRoom : List ℕ → Change → ℕ → ℕ → ℕ → Type 0
LacksRoom who change room len capacity =
    (gives change ≡ true) × (capacity < len + (room + 2 * (length who + length (subject_of change) + 5)))
