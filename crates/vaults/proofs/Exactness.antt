-- What stands in vaults, in lists of readers and in views.
use Rattle.std.proofs.Common.{ℕ, Bool, true, false, List, [], ◌∷◌, ◌≡◌, ◌∙◌, ◌||◌, ◌&&◌, inl, inr, sym, ap, refl, subst, filter, map, IsTrue}
use Rattle.std.specs.List.{list_any, filter_map, Contains}
use Rattle.std.specs.List.Sorted.{IsStrictlySortedBy}
use Rattle.std.specs.Ordering.{eq_by_cmp}
use Rattle.std.proofs.lemmas.Bool.{and_parts, and_from, and_right, or_cases}
use Rattle.std.proofs.lemmas.List.Elements.{filter_agree, All-contains, All-map}
use Rattle.std.proofs.lemmas.List.Folds.{list_any-append}
use Rattle.names.specs.Name.{is_same, name_order}
use Rattle.credential_text.specs.declared.credentials.Credential.{Credential}
use Rattle.credential_text.specs.Credential.{credential_order}
use Rattle.vaults.specs.declared.changes.Change.{Change}
use Rattle.vaults.specs.declared.changes.Change.TheVariants.{Upload, Withdraw, Grant, Revoke, GrantAll, RevokeAll}
use Rattle.vaults.specs.declared.changes.Entry.{Entry}
use Rattle.vaults.specs.InOrder.{in_order}
use Rattle.vaults.specs.Journal.{gives_same, stands, uploaded, named_reader, entries_of, holds, granted, is_public, reads, vault, readers, marked_names, names_in, Vault, view, credentials}
use Rattle.vaults.specs.declared.marks.Seen.{Seen}
use Rattle.vaults.specs.Laws.{VaultsAreExact, ReadersAreExact, NamesReadAreExact, ViewsAreOfNamesRead, MarksAreExact, ViewsAreExact}
use Rattle.vaults.specs.Laws.{HoldingIsOwn, GrantingIsOwn, PublishingIsOwn, VaultsAreOwn, ReadersAreOwn, GrantCountsAreOwn, RefusalsAreOwn}
use Rattle.vaults.proofs.Elements.{has, has-in_order, has-filter, sorted-in_order, has_iff, tied_both_ways}
use Rattle.names.proofs.SameNames.{is_same_tied, same_from_is_same, is_same_itself}
use Rattle.vaults.proofs.Orders.{credentials_exact, names_exact}
use Rattle.vaults.proofs.LastEntries.{asked, list_any_agree, stands_named, stands_entered, stands_own, entries_own}

and_absorbs : (b m : Bool) → (b ≡ true → m ≡ true) → (b && m) ≡ b
and_absorbs true m follows = follows refl
and_absorbs false m follows = refl

upload_named : (c : Credential) (change : Change) → gives_same change (Upload c) ≡ true → asked (eq_by_cmp credential_order c) (uploaded change) ≡ true
upload_named c (Upload d) same = tied_both_ways credentials_exact c d ∙ same
upload_named c _ same = cc

reader_named : (reader : List ℕ) (change : Change) → gives_same change (Grant reader) ≡ true → asked (eq_by_cmp name_order reader) (named_reader change) ≡ true
reader_named reader (Grant other) same = tied_both_ways names_exact reader other ∙ is_same_tied other reader ∙ same
reader_named reader _ same = cc

-- the vault has what its owner issues and holds
pub has-vault : (journal : List Entry) (owner : List ℕ) (c : Credential) → has credential_order (vault journal owner) c ≡ (is_same c.head.owner owner && holds journal owner c)
unfolding vault
has-vault journal owner c =
    has-in_order credentials_exact (filter (λ d. is_same d.head.owner owner && holds journal owner d) (filter_map (λ e. uploaded e.change) (entries_of owner journal))) c
    ∙ has-filter credentials_exact (λ d. is_same d.head.owner owner && holds journal owner d) (filter_map (λ e. uploaded e.change) (entries_of owner journal)) c
    ∙ and_absorbs (is_same c.head.owner owner && holds journal owner c) (has credential_order (filter_map (λ e. uploaded e.change) (entries_of owner journal)) c)
    (λ held. stands_named (Upload c) uploaded (eq_by_cmp credential_order c) (upload_named c) journal owner (and_parts _ _ held).1)

pub sorted-vault : (journal : List Entry) (owner : List ℕ) → IsStrictlySortedBy credential_order (vault journal owner)
unfolding vault
sorted-vault journal owner = sorted-in_order credentials_exact (filter (λ d. is_same d.head.owner owner && holds journal owner d) (filter_map (λ e. uploaded e.change) (entries_of owner journal)))

-- the readers are those that the owner has granted
pub has-readers : (journal : List Entry) (owner reader : List ℕ) → has name_order (readers journal owner) reader ≡ granted journal owner reader
unfolding readers
has-readers journal owner reader =
    has-in_order names_exact (filter (granted journal owner) (filter_map (λ e. named_reader e.change) (entries_of owner journal))) reader
    ∙ has-filter names_exact (granted journal owner) (filter_map (λ e. named_reader e.change) (entries_of owner journal)) reader
    ∙ and_absorbs (granted journal owner reader) (has name_order (filter_map (λ e. named_reader e.change) (entries_of owner journal)) reader)
    (λ given. stands_named (Grant reader) named_reader (eq_by_cmp name_order reader) (reader_named reader) journal owner given)

pub sorted-readers : (journal : List Entry) (owner : List ℕ) → IsStrictlySortedBy name_order (readers journal owner)
unfolding readers
sorted-readers journal owner = sorted-in_order names_exact (filter (granted journal owner) (filter_map (λ e. named_reader e.change) (entries_of owner journal)))

list_any-map : {X Y : Type 0} (p : Y → Bool) (f : X → Y) (xs : List X) → list_any p (map f xs) ≡ list_any (λ x. p (f x)) xs
list_any-map p f [] = refl
list_any-map p f (x ∷ xs) = ap (λ (b : Bool). p (f x) || b) (list_any-map p f xs)

same_either_way : (a b : List ℕ) → is_same a b ≡ is_same b a
same_either_way a b = sym (is_same_tied a b) ∙ tied_both_ways names_exact a b ∙ is_same_tied b a

read_candidates : (s g m : Bool) → (g ≡ true → m ≡ true) → ((s || g) && (s || m)) ≡ (s || g)
read_candidates true g m follows = refl
read_candidates false true m follows = follows refl
read_candidates false false m follows = refl

-- an owner of whom something stands is among the tenants of the journal
among_tenants : (change : Change) (journal : List Entry) (owner : List ℕ) → stands journal owner change ≡ true → has name_order (map (λ e. e.tenant) journal) owner ≡ true
among_tenants change journal owner standing =
    list_any-map (eq_by_cmp name_order owner) (λ (e : Entry). e.tenant) journal
    ∙ list_any_agree (λ (e : Entry). eq_by_cmp name_order owner e.tenant) (λ e. is_same e.tenant owner) (λ e. is_same_tied owner e.tenant ∙ same_either_way owner e.tenant) journal
    ∙ stands_entered change journal owner standing

-- a name with its mark, and a name that is seen with its vault
abbrev pub with_mark : List Entry → List ℕ → Seen
with_mark journal owner = record { name = owner; to_all = is_public journal owner }

abbrev pub with_vault : List Entry → Seen → Vault
with_vault journal s = record { owner = s.name; rows = vault journal s.name }

names_again : (journal : List Entry) (names : List (List ℕ)) → names_in (map (with_mark journal) names) ≡ names
names_again journal [] = refl
names_again journal (name ∷ names) = ap (λ (l : List (List ℕ)). name ∷ l) (names_again journal names)

pub names_seen : (journal : List Entry) (reader : List ℕ) →
    names_in (marked_names journal reader) ≡ in_order name_order (filter (reads journal reader) (reader ∷ map (λ e. e.tenant) journal))
unfolding marked_names
names_seen journal reader = names_again journal (in_order name_order (filter (reads journal reader) (reader ∷ map (λ e. e.tenant) journal)))

-- the names seen are those that the reader reads
pub has-names_seen : (journal : List Entry) (reader owner : List ℕ) → has name_order (names_in (marked_names journal reader)) owner ≡ reads journal reader owner
has-names_seen journal reader owner =
    ap (λ (l : List (List ℕ)). has name_order l owner) (names_seen journal reader)
    ∙ has-in_order names_exact (filter (reads journal reader) (reader ∷ map (λ e. e.tenant) journal)) owner
    ∙ has-filter names_exact (reads journal reader) (reader ∷ map (λ e. e.tenant) journal) owner
    ∙ ap (λ (b : Bool). reads journal reader owner && (b || has name_order (map (λ e. e.tenant) journal) owner)) (is_same_tied owner reader)
    ∙ read_candidates (is_same owner reader) (granted journal owner reader || is_public journal owner) (has name_order (map (λ e. e.tenant) journal) owner)
    (λ open_to. elim (or_cases (granted journal owner reader) (is_public journal owner) open_to) [
      | inl given ↦ among_tenants (Grant reader) journal owner given
      | inr public ↦ among_tenants GrantAll journal owner public
    ])

pub sorted-names_seen : (journal : List Entry) (reader : List ℕ) → IsStrictlySortedBy name_order (names_in (marked_names journal reader))
sorted-names_seen journal reader =
    subst (IsStrictlySortedBy name_order) (sym (names_seen journal reader)) (sorted-in_order names_exact (filter (reads journal reader) (reader ∷ map (λ e. e.tenant) journal)))

pub vaults_exact : VaultsAreExact
vaults_exact journal owner = record {
  in_order = sorted-vault journal owner;
  exact = λ c. (
    λ (among : Contains (vault journal owner) c).
        let both : (is_same c.head.owner owner ≡ true) × (holds journal owner c ≡ true) = and_parts _ _ (sym (has-vault journal owner c) ∙ (has_iff credentials_exact (vault journal owner) c).1 among) in
        (same_from_is_same c.head.owner owner both.0, both.1),
    λ (held : (c.head.owner ≡ owner) × IsTrue (holds journal owner c)).
        (has_iff credentials_exact (vault journal owner) c).0 (has-vault journal owner c ∙ and_from _ _ (is_same_itself c.head.owner owner held.0) held.1),
  );
}

pub readers_exact : ReadersAreExact
readers_exact journal owner = record {
  in_order = sorted-readers journal owner;
  exact = λ reader. (
    λ (among : Contains (readers journal owner) reader). sym (has-readers journal owner reader) ∙ (has_iff names_exact (readers journal owner) reader).1 among,
    λ (given : IsTrue (granted journal owner reader)). (has_iff names_exact (readers journal owner) reader).0 (has-readers journal owner reader ∙ given),
  );
}

pub names_read_exact : NamesReadAreExact
names_read_exact journal reader = record {
  in_order = sorted-names_seen journal reader;
  exact = λ owner. (
    λ (among : Contains (names_in (marked_names journal reader)) owner).
        sym (has-names_seen journal reader owner) ∙ (has_iff names_exact (names_in (marked_names journal reader)) owner).1 among,
    λ (read : IsTrue (reads journal reader owner)). (has_iff names_exact (names_in (marked_names journal reader)) owner).0 (has-names_seen journal reader owner ∙ read),
  );
}

owners_again : (journal : List Entry) (seen : List Seen) → map (λ (v : Vault). v.owner) (map (with_vault journal) seen) ≡ names_in seen
owners_again journal [] = refl
owners_again journal (s ∷ seen) = ap (λ (l : List (List ℕ)). s.name ∷ l) (owners_again journal seen)

pub views_of_names_read : ViewsAreOfNamesRead
unfolding view
views_of_names_read journal reader = (
  owners_again journal (marked_names journal reader),
  λ v among. All-contains (λ (w : Vault). w.rows ≡ vault journal w.owner) (view journal reader) v
      (All-map (λ (w : Vault). w.rows ≡ vault journal w.owner) (with_vault journal) (marked_names journal reader) (λ k d within. refl)) among,
)

pub marks_exact : MarksAreExact
unfolding marked_names
marks_exact journal reader s among =
    All-contains (λ (s : Seen). s.to_all ≡ is_public journal s.name) (marked_names journal reader) s
    (All-map (λ (s : Seen). s.to_all ≡ is_public journal s.name) (with_mark journal)
    (in_order name_order (filter (reads journal reader) (reader ∷ map (λ e. e.tenant) journal))) (λ k d within. refl)) among

rows_any : (journal : List Entry) (t : Credential → Bool) (seen : List Seen) →
    list_any t (credentials (map (with_vault journal) seen)) ≡ list_any (λ s. list_any t (vault journal s.name)) seen
rows_any journal t [] = refl
rows_any journal t (s ∷ seen) =
    list_any-append t (vault journal s.name) (credentials (map (with_vault journal) seen)) ∙ ap (λ (b : Bool). list_any t (vault journal s.name) || b) (rows_any journal t seen)

list_any-and : {X : Type 0} (p : X → Bool) (b : Bool) (xs : List X) → list_any (λ x. p x && b) xs ≡ (list_any p xs && b)
list_any-and p b [] = refl
list_any-and {X} p b (x ∷ xs) = by (p x) b (list_any-and p b xs)
  where
    by : (here b : Bool) → list_any (λ y. p y && b) xs ≡ (list_any p xs && b) → ((here && b) || list_any (λ y. p y && b) xs) ≡ ((here || list_any p xs) && b)
    by true true rest = refl
    by true false rest = rest ∙ and_right (list_any p xs) false refl
    by false b rest = rest

pub has-credentials : (journal : List Entry) (reader : List ℕ) (c : Credential) →
    has credential_order (credentials (view journal reader)) c ≡ (reads journal reader c.head.owner && holds journal c.head.owner c)
unfolding view
has-credentials journal reader c =
    rows_any journal (eq_by_cmp credential_order c) (marked_names journal reader)
    ∙ list_any_agree (λ (s : Seen). has credential_order (vault journal s.name) c) (λ s. eq_by_cmp name_order c.head.owner s.name && holds journal c.head.owner c) (λ s. agree s.name) (marked_names journal reader)
    ∙ list_any-and (λ (s : Seen). eq_by_cmp name_order c.head.owner s.name) (holds journal c.head.owner c) (marked_names journal reader)
    ∙ ap (λ (b : Bool). b && holds journal c.head.owner c)
    (sym (list_any-map (eq_by_cmp name_order c.head.owner) (λ (s : Seen). s.name) (marked_names journal reader)) ∙ has-names_seen journal reader c.head.owner)
  where
    by : (name : List ℕ) (b : Bool) → is_same c.head.owner name ≡ b → (b && holds journal name c) ≡ (b && holds journal c.head.owner c)
    by name true e = ap (λ (n : List ℕ). holds journal n c) (sym (same_from_is_same c.head.owner name e))
    by name false e = refl

    agree : (name : List ℕ) → has credential_order (vault journal name) c ≡ (eq_by_cmp name_order c.head.owner name && holds journal c.head.owner c)
    agree name = has-vault journal name c ∙ by name (is_same c.head.owner name) refl ∙ ap (λ (b : Bool). b && holds journal c.head.owner c) (sym (is_same_tied c.head.owner name))

pub views_exact : ViewsAreExact
views_exact journal reader c = (
  λ (among : Contains (credentials (view journal reader)) c). and_parts _ _ (sym (has-credentials journal reader c) ∙ (has_iff credentials_exact (credentials (view journal reader)) c).1 among),
  λ (both : IsTrue (reads journal reader c.head.owner) × IsTrue (holds journal c.head.owner c)).
      (has_iff credentials_exact (credentials (view journal reader)) c).0 (has-credentials journal reader c ∙ and_from _ _ both.0 both.1),
)

pub holding_own : HoldingIsOwn
holding_own journal tenant c = stands_own journal tenant (Upload c)

pub granting_own : GrantingIsOwn
granting_own journal tenant reader = stands_own journal tenant (Grant reader)

pub publishing_own : PublishingIsOwn
publishing_own journal tenant = stands_own journal tenant GrantAll

pub vaults_own : VaultsAreOwn
unfolding vault
vaults_own journal tenant =
    ap (λ (es : List Entry). in_order credential_order (filter (λ c. is_same c.head.owner tenant && holds (entries_of tenant journal) tenant c) (filter_map (λ e. uploaded e.change) es))) (entries_own journal tenant)
    ∙ ap (in_order credential_order) (filter_agree (λ c. is_same c.head.owner tenant && holds (entries_of tenant journal) tenant c) (λ c. is_same c.head.owner tenant && holds journal tenant c)
    (λ c. ap (λ (b : Bool). is_same c.head.owner tenant && b) (holding_own journal tenant c)) (filter_map (λ e. uploaded e.change) (entries_of tenant journal)))

pub readers_own : ReadersAreOwn
unfolding readers
readers_own journal tenant =
    ap (λ (es : List Entry). in_order name_order (filter (granted (entries_of tenant journal) tenant) (filter_map (λ e. named_reader e.change) es))) (entries_own journal tenant)
    ∙ ap (in_order name_order) (filter_agree (granted (entries_of tenant journal) tenant) (granted journal tenant) (granting_own journal tenant) (filter_map (λ e. named_reader e.change) (entries_of tenant journal)))

pub grant_counts_own : GrantCountsAreOwn
grant_counts_own journal tenant = rw (readers_own journal tenant, publishing_own journal tenant)

pub refusals_own : RefusalsAreOwn
refusals_own journal tenant (Upload c) = rw (holding_own journal tenant c)
refusals_own journal tenant (Withdraw c) = rw (holding_own journal tenant c)
refusals_own journal tenant (Grant reader) = rw (granting_own journal tenant reader)
refusals_own journal tenant (Revoke reader) = rw (granting_own journal tenant reader)
refusals_own journal tenant GrantAll = rw (publishing_own journal tenant)
refusals_own journal tenant RevokeAll = rw (publishing_own journal tenant)
