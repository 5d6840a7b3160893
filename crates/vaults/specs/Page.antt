-- What is kept of one tenant beside the journal.
use Rattle.std.specs.Prelude.{ℕ, Bool, true, not, List, [], ◌+◌, length, unwrap_or, if◌then◌else◌}
use Rattle.std.specs.List.{list_any}
use Rattle.std.specs.Ordering.{eq_by_cmp}
use Rattle.std.specs.BTreeMap.{BTreeMap, get}
use Rattle.std.specs.BTreeSet.{insert_key}
use Rattle.names.specs.Name.{name_order}
use Rattle.credential_text.specs.declared.credentials.Credential.{Credential}
use Rattle.credential_text.specs.Credential.{credential_order}
use Rattle.vaults.specs.declared.changes.Change.{Change}
use Rattle.vaults.specs.declared.changes.Change.TheVariants.{Upload, Withdraw, Grant, Revoke, GrantAll, RevokeAll}
use Rattle.vaults.specs.declared.changes.Entry.{Entry}
use Rattle.vaults.specs.declared.faults.VaultFault.{VaultFault}
use Rattle.vaults.specs.declared.faults.VaultFault.TheVariants.{AlreadyHeld, Memory}
use Rattle.vaults.specs.InOrder.{without}
use Rattle.vaults.specs.Journal.{entries_of, vault, readers}

-- the rows of a tenant's vault, its readers and the number of its changes
pub record PageState : Type 0 where
  pub rows : List Credential
  pub readers : List (List ℕ)
  pub changes : ℕ

abbrev pub empty_page : PageState
empty_page = record { rows = []; readers = []; changes = 0 }

-- what is kept of the tenant; one without a page has nothing
abbrev pub page_at : BTreeMap (List ℕ) PageState → List ℕ → PageState
page_at pages tenant = unwrap_or (get name_order pages tenant) empty_page

-- what the journal gives the tenant
abbrev pub page_of : List Entry → List ℕ → PageState
page_of journal tenant = record {
  rows = vault journal tenant;
  readers = readers journal tenant;
  changes = length (entries_of tenant journal);
}

-- the change may be made of the rows: what it puts isn't there, and what it takes is
abbrev pub is_due : Change → List Credential → Bool
is_due (Upload c) rows = not (list_any (eq_by_cmp credential_order c) rows)
is_due (Withdraw c) rows = list_any (eq_by_cmp credential_order c) rows
is_due (Grant reader) rows = true
is_due (Revoke reader) rows = true
is_due GrantAll rows = true
is_due RevokeAll rows = true

-- why an upload isn't made of the rows: what it puts is there, or else memory lacks
abbrev pub page_fault : Change → List Credential → VaultFault
page_fault change rows = if is_due change rows then Memory else AlreadyHeld

-- the rows after a change
abbrev pub rows_after : Change → List Credential → List Credential
rows_after (Upload c) rows = insert_key credential_order rows c
rows_after (Withdraw c) rows = without credential_order c rows
rows_after (Grant reader) rows = rows
rows_after (Revoke reader) rows = rows
rows_after GrantAll rows = rows
rows_after RevokeAll rows = rows

-- the readers after a change
abbrev pub readers_after : Change → List (List ℕ) → List (List ℕ)
readers_after (Upload c) readers = readers
readers_after (Withdraw c) readers = readers
readers_after (Grant reader) readers = insert_key name_order readers reader
readers_after (Revoke reader) readers = without name_order reader readers
readers_after GrantAll readers = readers
readers_after RevokeAll readers = readers

abbrev pub page_after : Change → PageState → PageState
page_after change page = record {
  rows = rows_after change page.rows;
  readers = readers_after change page.readers;
  changes = page.changes + 1;
}
