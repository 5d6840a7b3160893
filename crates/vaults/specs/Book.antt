-- What a book keeps beside its journal, which is what contracts see of it.
use Rattle.std.specs.Prelude.{ℕ, Bool, false, List, [], ◌≡◌, ◌&&◌, Option, Some, None, unwrap_or, if◌then◌else◌}
use Rattle.std.specs.List.{list_any}
use Rattle.std.specs.Ordering.{eq_by_cmp}
use Rattle.std.specs.BTreeMap.{BTreeMap, get}
use Rattle.names.specs.Name.{is_same, name_order}
use Rattle.vaults.specs.declared.changes.Change.{Change}
use Rattle.vaults.specs.declared.changes.Change.TheVariants.{Upload, Grant, GrantAll}
use Rattle.vaults.specs.declared.changes.Entry.{Entry}
use Rattle.vaults.specs.declared.faults.VaultFault.{VaultFault}
use Rattle.vaults.specs.declared.faults.VaultFault.TheVariants.{NotIssuer}
use Rattle.vaults.specs.Journal.{gift, gives_same, granted, is_public, refusal, AreAccepted}
use Rattle.vaults.specs.Owed.{gives}
use Rattle.vaults.specs.Page.{PageState, page_at, page_of, page_after}

-- each tenant's page is what the journal gives it
abbrev pub ArePages : List Entry → BTreeMap (List ℕ) PageState → Type 0
ArePages journal pages = (tenant : List ℕ) → page_at pages tenant ≡ page_of journal tenant

-- whether the owner is kept among those that have granted the reader
abbrev pub is_granting : BTreeMap (List ℕ) (List (List ℕ)) → List ℕ → List ℕ → Bool
is_granting granting owner reader = list_any (eq_by_cmp name_order owner) (unwrap_or (get name_order granting reader) [])

-- for each reader, just those are kept that the journal says to have granted it
abbrev pub AreGranting : List Entry → BTreeMap (List ℕ) (List (List ℕ)) → Type 0
AreGranting journal granting = (owner reader : List ℕ) → is_granting granting owner reader ≡ granted journal owner reader

-- whether the owner is kept among those whose vault is public
abbrev pub is_listed : List (List ℕ) → List ℕ → Bool
is_listed public owner = list_any (eq_by_cmp name_order owner) public

-- just those are kept whose vault the journal says to be public
abbrev pub ArePublic : List Entry → List (List ℕ) → Type 0
ArePublic journal public = (owner : List ℕ) → is_listed public owner ≡ is_public journal owner

-- the journal is of accepted changes, and the pages, who has granted whom and whose vaults are public are what it gives
pub record IsBook (journal : List Entry) (pages : BTreeMap (List ℕ) PageState) (granting : BTreeMap (List ℕ) (List (List ℕ)))
    (public : List (List ℕ)) : Type 0 where
  pub accepted : AreAccepted journal
  pub pages_are : ArePages journal pages
  pub granting_are : AreGranting journal granting
  pub public_are : ArePublic journal public

-- the refusal that a change is due before its rows are looked at: an upload's page says itself whether they have it
abbrev pub early_refusal : List Entry → List ℕ → Change → Option VaultFault
early_refusal journal who (Upload c) = if is_same c.head.owner who then None else Some NotIssuer
early_refusal journal who other = refusal journal who other

-- the change is kept on the tenant's page, and every other page is as it was
abbrev pub KeepsChange : List ℕ → Change → BTreeMap (List ℕ) PageState → BTreeMap (List ℕ) PageState → Type 0
KeepsChange who change old new = (tenant : List ℕ) → page_at new tenant
    ≡ (if eq_by_cmp name_order who tenant then page_after change (page_at old who) else page_at old tenant)

-- every page is as it was
abbrev pub IsUnchanged : BTreeMap (List ℕ) PageState → BTreeMap (List ℕ) PageState → Type 0
IsUnchanged old new = (tenant : List ℕ) → page_at new tenant ≡ page_at old tenant

-- the change is kept for the reader that it concerns, and every other reader has the owners that it had
abbrev pub KeepsGrant : List ℕ → Change → BTreeMap (List ℕ) (List (List ℕ)) → BTreeMap (List ℕ) (List (List ℕ)) → Type 0
KeepsGrant who change old new = (owner reader : List ℕ) → is_granting new owner reader
    ≡ (if is_same who owner && gives_same (gift change) (Grant reader) then gives change else is_granting old owner reader)

-- every reader has the owners that it had
abbrev pub SameGranting : BTreeMap (List ℕ) (List (List ℕ)) → BTreeMap (List ℕ) (List (List ℕ)) → Type 0
SameGranting old new = (owner reader : List ℕ) → is_granting new owner reader ≡ is_granting old owner reader

-- where the change is for all readers it is kept of the owner, and every other owner's vault is public or not as it was
abbrev pub KeepsPublic : List ℕ → Change → List (List ℕ) → List (List ℕ) → Type 0
KeepsPublic who change old new = (owner : List ℕ) → is_listed new owner
    ≡ (if is_same who owner && gives_same (gift change) GrantAll then gives change else is_listed old owner)

-- the same vaults are public
abbrev pub SamePublic : List (List ℕ) → List (List ℕ) → Type 0
SamePublic old new = (owner : List ℕ) → is_listed new owner ≡ is_listed old owner

-- the change is kept in both
abbrev pub KeepsGift : List ℕ → Change → BTreeMap (List ℕ) (List (List ℕ)) → BTreeMap (List ℕ) (List (List ℕ)) →
    List (List ℕ) → List (List ℕ) → Type 0
KeepsGift who change old new public listed = KeepsGrant who change old new × KeepsPublic who change public listed

-- both are as they were
abbrev pub SameGifts : BTreeMap (List ℕ) (List (List ℕ)) → BTreeMap (List ℕ) (List (List ℕ)) →
    List (List ℕ) → List (List ℕ) → Type 0
SameGifts old new public listed = SameGranting old new × SamePublic public listed

-- what the change gives or takes back isn't kept of the owner any longer, and all else is as it was
abbrev pub EndsGift : List ℕ → Change → BTreeMap (List ℕ) (List (List ℕ)) → BTreeMap (List ℕ) (List (List ℕ)) →
    List (List ℕ) → List (List ℕ) → Type 0
EndsGift who change old new public listed =
    ((owner reader : List ℕ) → is_granting new owner reader
    ≡ (if is_same who owner && gives_same (gift change) (Grant reader) then false else is_granting old owner reader))
    × ((owner : List ℕ) → is_listed listed owner
    ≡ (if is_same who owner && gives_same (gift change) GrantAll then false else is_listed public owner))
