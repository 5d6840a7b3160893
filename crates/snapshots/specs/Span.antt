-- Where the rows of a role stand in a view: said by counting what stands before them.
use Rattle.std.specs.Prelude.{ℕ, ◌+◌, ◌==◌, Bool, List, length, filter, if◌then◌else◌}
use Rattle.std.specs.declared.cmp.Ordering.{Ordering}
use Rattle.std.specs.Ordering.{is_lt, is_eq, is_le}
use Rattle.names.specs.Name.{name_order}
use Rattle.names.specs.declared.roles.Role.{Role}
use Rattle.names.specs.Role.{role_order}
use Rattle.credential_text.specs.declared.credentials.Credential.{Credential}
use Rattle.vaults.specs.Journal.{Vault, credentials}
use Rattle.snapshots.specs.declared.spans.Span.{Span}
use Rattle.snapshots.specs.declared.spans.Cut.{Cut}
use Rattle.snapshots.specs.declared.spans.Cut.TheVariants.{Before, Through}
use Rattle.snapshots.specs.Places.{neighbours}

-- how many elements pass
abbrev pub how_many : {X : Type 0} → (X → Bool) → List X → ℕ
how_many p xs = length (filter p xs)

-- the vault stands before the owner's
abbrev pub is_below : List ℕ → Vault → Bool
is_below owner v = is_lt (name_order v.owner owner)

-- the vault is the owner's
abbrev pub is_owned : List ℕ → Vault → Bool
is_owned owner v = is_eq (name_order v.owner owner)

-- the place of the owner's vault, or where it would stand
abbrev pub place_of : List Vault → List ℕ → ℕ
place_of view owner = how_many (is_below owner) view

-- the rows of the owner's vault, none where the view hasn't the owner
abbrev pub rows_of : List Vault → List ℕ → List Credential
rows_of view owner = credentials (filter (is_owned owner) view)

-- the row is of the role; it stands before those of the role; it stands before those or among them
abbrev pub is_row : Role → Credential → Bool
is_row role c = is_eq (role_order c.head role)

abbrev pub is_before : Role → Credential → Bool
is_before role c = is_lt (role_order c.head role)

abbrev pub is_through : Role → Credential → Bool
is_through role c = is_le (role_order c.head role)

-- the rows of the role, in order
abbrev pub role_rows : List Vault → Role → List Credential
role_rows view role = filter (is_row role) (rows_of view role.owner)

-- the place of the owner's vault, and from where to where the rows of the role stand in it
abbrev pub span_of : List Vault → Role → Span
span_of view role = record {
  vault = place_of view role.owner;
  lo = how_many (is_before role) (rows_of view role.owner);
  hi = how_many (is_through role) (rows_of view role.owner);
}

-- which rows stand before a cut
abbrev pub is_cut : Cut → Role → Credential → Bool
is_cut Before role = is_before role
is_cut Through role = is_through role

-- what compares so to the role stands before the cut
abbrev pub is_cut_at : Cut → Ordering → Bool
is_cut_at Before order = is_lt order
is_cut_at Through order = is_le order

-- which of the rows of the role's owner stand before a cut, by the names of their roles
abbrev pub is_cut_by_name : Cut → List ℕ → Credential → Bool
is_cut_by_name cut name c = is_cut_at cut (name_order c.head.name name)

-- how many comparisons decide whether a span is right: with the owners next to its place, and where these show the place
-- to be right, with the owner of the vault there and with the rows next to the span's ends
abbrev pub comparisons : List Vault → Role → Span → ℕ
comparisons view role span = neighbours view span.vault
    + (if span.vault == place_of view role.owner
    then 1 + neighbours (rows_of view role.owner) span.lo + neighbours (rows_of view role.owner) span.hi else 0)
