-- What is kept of each tenant after one entry more, and which changes its rows refuse.
use Rattle.std.proofs.Common.{ℕ, Bool, true, false, cond, not, List, [], ◌∷◌, ◌++◌, ◌+◌, ◌≤◌, ◌<◌, ◌^◌, arith, ◌≡◌, ◌∙◌, ◌||◌, ◌&&◌, sym, ap, refl, subst, length, Option, Some, None, unwrap_or, length-append}
use Rattle.std.specs.Ordering.{eq_by_cmp}
use Rattle.std.specs.BTreeMap.{BTreeMap, get}
use Rattle.std.specs.List.Sorted.{IsStrictlySortedBy}
use Rattle.std.proofs.lemmas.List.{append-nil}
use Rattle.std.proofs.lemmas.List.Filters.{length-filter_both}
use Rattle.names.specs.Name.{is_same, name_order}
use Rattle.credential_text.specs.declared.credentials.Credential.{Credential}
use Rattle.credential_text.specs.Credential.{credential_order}
use Rattle.vaults.specs.declared.changes.Change.{Change}
use Rattle.vaults.specs.declared.changes.Change.TheVariants.{Upload, Withdraw, Grant, Revoke, GrantAll, RevokeAll}
use Rattle.vaults.specs.declared.changes.Entry.{Entry}
use Rattle.vaults.specs.declared.faults.VaultFault.{VaultFault}
use Rattle.vaults.specs.declared.faults.VaultFault.TheVariants.{NotIssuer, AlreadyHeld, NotHeld, Memory}
use Rattle.vaults.specs.Journal.{gift, gives_same, stands, uploaded, entries_of, holds, granted, vault, readers, refusal}
use Rattle.vaults.specs.Owed.{gives}
use Rattle.vaults.specs.Page.{PageState, empty_page, page_at, page_of, rows_after, readers_after, page_after, page_fault, is_due}
use Rattle.vaults.specs.Book.{ArePages, KeepsChange, early_refusal}
use Rattle.vaults.proofs.Elements.{has, same_in_order, has-insert_key, sorted-insert_key, has-without, sorted-without, same_from_tied, tied_both_ways}
use Rattle.names.proofs.SameNames.{is_same_tied, same_from_is_same, is_same_itself}
use Rattle.vaults.proofs.Orders.{credentials_exact, names_exact}
use Rattle.vaults.proofs.LastEntries.{stands_push, entries_push}
use Rattle.vaults.proofs.Exactness.{has-vault, sorted-vault, has-readers, sorted-readers, vaults_own, readers_own}

abbrev entry : List ℕ → Change → Entry
entry who change = record { tenant = who; change = change }

-- what stands after one entry more of the tenant
stands_push_own : (journal : List Entry) (who : List ℕ) (change other : Change) →
    stands (journal ++ entry who change ∷ []) who other ≡ cond (gives_same (gift change) other) (gives change) (stands journal who other)
stands_push_own journal who change other =
    stands_push journal (entry who change) who other
    ∙ ap (λ (b : Bool). cond (b && gives_same (gift change) other) (gives change) (stands journal who other)) (is_same_itself who who refl)

-- a change leaves the vault in order
sorted-rows_after : (journal : List Entry) (who : List ℕ) (change : Change) → IsStrictlySortedBy credential_order (rows_after change (vault journal who))
sorted-rows_after journal who (Upload c) = sorted-insert_key credentials_exact (vault journal who) c (sorted-vault journal who)
sorted-rows_after journal who (Withdraw c) = sorted-without credentials_exact (vault journal who) c (sorted-vault journal who)
sorted-rows_after journal who (Grant reader) = sorted-vault journal who
sorted-rows_after journal who (Revoke reader) = sorted-vault journal who
sorted-rows_after journal who GrantAll = sorted-vault journal who
sorted-rows_after journal who RevokeAll = sorted-vault journal who

issued_then : (s h e : Bool) → (e ≡ true → s ≡ true) → (s && cond e true h) ≡ (e || (s && h))
issued_then s h true issued = ap (λ (b : Bool). b && true) (issued refl)
issued_then s h false issued = refl

gone_then : (s h e : Bool) → (s && cond e false h) ≡ (not e && (s && h))
gone_then true h true = refl
gone_then false h true = refl
gone_then s h false = refl

-- what the refusal of an upload leaves
issued : (journal : List Entry) (who : List ℕ) (c : Credential) → refusal journal who (Upload c) ≡ None → is_same c.head.owner who ≡ true
issued journal who c accepted = by (is_same c.head.owner who) refl accepted
  where
    by : (b : Bool) → is_same c.head.owner who ≡ b → cond (not b) (Some NotIssuer) (cond (holds journal who c) (Some AlreadyHeld) None) ≡ None → is_same c.head.owner who ≡ true
    by true e _ = e
    by false e refused = cc

has-rows_after : (journal : List Entry) (who : List ℕ) (change : Change) → refusal journal who change ≡ None → (x : Credential) →
    (is_same x.head.owner who && cond (gives_same (gift change) (Upload x)) (gives change) (holds journal who x)) ≡ has credential_order (rows_after change (vault journal who)) x
has-rows_after journal who (Upload c) accepted x =
    ap (λ (e : Bool). is_same x.head.owner who && cond e true (holds journal who x)) (tied_both_ways credentials_exact c x)
    ∙ issued_then (is_same x.head.owner who) (holds journal who x) (eq_by_cmp credential_order x c)
    (λ tied. ap (λ (d : Credential). is_same d.head.owner who) (same_from_tied credentials_exact x c tied) ∙ issued journal who c accepted)
    ∙ ap (λ (b : Bool). eq_by_cmp credential_order x c || b) (sym (has-vault journal who x))
    ∙ sym (has-insert_key credentials_exact (vault journal who) c x)
has-rows_after journal who (Withdraw c) accepted x =
    gone_then (is_same x.head.owner who) (holds journal who x) (eq_by_cmp credential_order c x)
    ∙ ap (λ (b : Bool). not (eq_by_cmp credential_order c x) && b) (sym (has-vault journal who x))
    ∙ sym (has-without credentials_exact (vault journal who) c x)
has-rows_after journal who (Grant reader) accepted x = sym (has-vault journal who x)
has-rows_after journal who (Revoke reader) accepted x = sym (has-vault journal who x)
has-rows_after journal who GrantAll accepted x = sym (has-vault journal who x)
has-rows_after journal who RevokeAll accepted x = sym (has-vault journal who x)

-- an accepted change of the owner and its vault
vault_push : (journal : List Entry) (who : List ℕ) (change : Change) → refusal journal who change ≡ None →
    vault (journal ++ entry who change ∷ []) who ≡ rows_after change (vault journal who)
vault_push journal who change accepted =
    same_in_order credentials_exact (vault (journal ++ entry who change ∷ []) who) (rows_after change (vault journal who))
    (sorted-vault (journal ++ entry who change ∷ []) who) (sorted-rows_after journal who change)
    (λ x.
    has-vault (journal ++ entry who change ∷ []) who x
    ∙ ap (λ (b : Bool). is_same x.head.owner who && b) (stands_push_own journal who change (Upload x))
    ∙ has-rows_after journal who change accepted x)

sorted-readers_after : (journal : List Entry) (who : List ℕ) (change : Change) → IsStrictlySortedBy name_order (readers_after change (readers journal who))
sorted-readers_after journal who (Upload c) = sorted-readers journal who
sorted-readers_after journal who (Withdraw c) = sorted-readers journal who
sorted-readers_after journal who (Grant reader) = sorted-insert_key names_exact (readers journal who) reader (sorted-readers journal who)
sorted-readers_after journal who (Revoke reader) = sorted-without names_exact (readers journal who) reader (sorted-readers journal who)
sorted-readers_after journal who GrantAll = sorted-readers journal who
sorted-readers_after journal who RevokeAll = sorted-readers journal who

given_then : (h e : Bool) → cond e true h ≡ (e || h)
given_then h true = refl
given_then h false = refl

revoked_then : (h e : Bool) → cond e false h ≡ (not e && h)
revoked_then h true = refl
revoked_then h false = refl

has-readers_after : (journal : List Entry) (who : List ℕ) (change : Change) (x : List ℕ) →
    cond (gives_same (gift change) (Grant x)) (gives change) (granted journal who x) ≡ has name_order (readers_after change (readers journal who)) x
has-readers_after journal who (Upload c) x = sym (has-readers journal who x)
has-readers_after journal who (Withdraw c) x = sym (has-readers journal who x)
has-readers_after journal who (Grant reader) x =
    given_then (granted journal who x) (is_same reader x)
    ∙ ap (λ (e : Bool). e || granted journal who x) (sym (is_same_tied reader x) ∙ tied_both_ways names_exact reader x)
    ∙ ap (λ (b : Bool). eq_by_cmp name_order x reader || b) (sym (has-readers journal who x))
    ∙ sym (has-insert_key names_exact (readers journal who) reader x)
has-readers_after journal who (Revoke reader) x =
    revoked_then (granted journal who x) (is_same reader x)
    ∙ ap (λ (e : Bool). not e && granted journal who x) (sym (is_same_tied reader x))
    ∙ ap (λ (b : Bool). not (eq_by_cmp name_order reader x) && b) (sym (has-readers journal who x))
    ∙ sym (has-without names_exact (readers journal who) reader x)
has-readers_after journal who GrantAll x = sym (has-readers journal who x)
has-readers_after journal who RevokeAll x = sym (has-readers journal who x)

-- a change of the owner and its readers
readers_push : (journal : List Entry) (who : List ℕ) (change : Change) → readers (journal ++ entry who change ∷ []) who ≡ readers_after change (readers journal who)
readers_push journal who change =
    same_in_order names_exact (readers (journal ++ entry who change ∷ []) who) (readers_after change (readers journal who))
    (sorted-readers (journal ++ entry who change ∷ []) who) (sorted-readers_after journal who change)
    (λ x. has-readers (journal ++ entry who change ∷ []) who x ∙ stands_push_own journal who change (Grant x) ∙ has-readers_after journal who change x)

pub own_entries_push : (journal : List Entry) (who : List ℕ) (change : Change) → entries_of who (journal ++ entry who change ∷ []) ≡ entries_of who journal ++ entry who change ∷ []
own_entries_push journal who change =
    entries_push journal (entry who change) who ∙ ap (λ (b : Bool). entries_of who journal ++ cond b (entry who change ∷ []) []) (is_same_itself who who refl)

changes_push : (journal : List Entry) (who : List ℕ) (change : Change) → length (entries_of who (journal ++ entry who change ∷ [])) ≡ length (entries_of who journal) + 1
changes_push journal who change = ap length (own_entries_push journal who change) ∙ length-append (entries_of who journal) (entry who change ∷ [])

-- what is kept of the tenant that made the change
pub page_push : (journal : List Entry) (who : List ℕ) (change : Change) → refusal journal who change ≡ None →
    page_of (journal ++ entry who change ∷ []) who ≡ page_after change (page_of journal who)
page_push journal who change accepted = λ i. record {
  rows = vault_push journal who change accepted i;
  readers = readers_push journal who change i;
  changes = changes_push journal who change i;
}

-- what is kept of every other tenant
pub page_push_other : (journal : List Entry) (who other : List ℕ) (change : Change) → is_same who other ≡ false →
    page_of (journal ++ entry who change ∷ []) other ≡ page_of journal other
page_push_other journal who other change apart =
    let same : entries_of other (journal ++ entry who change ∷ []) ≡ entries_of other journal =
    entries_push journal (entry who change) other ∙ ap (λ (b : Bool). entries_of other journal ++ cond b (entry who change ∷ []) []) apart ∙ append-nil (entries_of other journal) in
    λ i. record {
      rows = (sym (vaults_own (journal ++ entry who change ∷ []) other) ∙ ap (λ (es : List Entry). vault es other) same ∙ vaults_own journal other) i;
      readers = (sym (readers_own (journal ++ entry who change ∷ []) other) ∙ ap (λ (es : List Entry). readers es other) same ∙ readers_own journal other) i;
      changes = ap length same i;
    }

-- an empty journal gives nothing
pub page_of_nothing : (tenant : List ℕ) → empty_page ≡ page_of [] tenant
unfolding vault readers
page_of_nothing tenant = refl

-- a page that is found is what the journal gives
pub page_found : (journal : List Entry) (pages : BTreeMap (List ℕ) PageState) (tenant : List ℕ) (kept : PageState) → ArePages journal pages → Some kept ≡ get name_order pages tenant → kept ≡ page_of journal tenant
page_found journal pages tenant kept right found = ap (λ (o : Option PageState). unwrap_or o empty_page) found ∙ right tenant

-- where none is found, the journal gives nothing
pub page_missing : (journal : List Entry) (pages : BTreeMap (List ℕ) PageState) (tenant : List ℕ) → ArePages journal pages → None ≡ get name_order pages tenant → empty_page ≡ page_of journal tenant
page_missing journal pages tenant right none = ap (λ (o : Option PageState). unwrap_or o empty_page) none ∙ right tenant

-- pages that keep an accepted change are those of the journal with its entry
pub pages_push : (journal : List Entry) (who : List ℕ) (change : Change) (old new : BTreeMap (List ℕ) PageState) → refusal journal who change ≡ None →
    ArePages journal old → KeepsChange who change old new → ArePages (journal ++ entry who change ∷ []) new
pages_push journal who change old new accepted right keeps tenant =
    keeps tenant ∙ by (is_same who tenant) refl
  where
    by : (b : Bool) → is_same who tenant ≡ b →
        cond (eq_by_cmp name_order who tenant) (page_after change (page_at old who)) (page_at old tenant)
        ≡ page_of (journal ++ entry who change ∷ []) tenant
    by true same =
        ap (λ (b : Bool). cond b (page_after change (page_at old who)) (page_at old tenant)) (is_same_tied who tenant ∙ same)
        ∙ ap (page_after change) (right who) ∙ sym (page_push journal who change accepted)
        ∙ ap (page_of (journal ++ entry who change ∷ [])) (same_from_is_same who tenant same)
    by false apart =
        ap (λ (b : Bool). cond b (page_after change (page_at old who)) (page_at old tenant)) (is_same_tied who tenant ∙ apart)
        ∙ right tenant ∙ sym (page_push_other journal who tenant change apart)

-- a tenant has no more entries than the journal
length-entries_of : (tenant : List ℕ) (journal : List Entry) → length (entries_of tenant journal) ≤ length journal
length-entries_of tenant journal = omega (arith, length-filter_both (λ (e : Entry). is_same e.tenant tenant) (λ e. not (is_same e.tenant tenant)) (λ e. refl) journal)

-- so the number of its changes fits, and one more
pub changes_fit : (journal : List Entry) (pages : BTreeMap (List ℕ) PageState) (who : List ℕ) (n : ℕ) → ArePages journal pages → length journal ≤ n → n < 2 ^ 63 →
    (page_at pages who).changes + 1 < 2 ^ 64
changes_fit journal pages who n right within small =
    let same : (page_at pages who).changes ≡ length (entries_of who journal) = ap (λ (k : PageState). k.changes) (right who) in
    omega (arith, length-entries_of who journal)

-- the vault lets an accepted change be made
due : (journal : List Entry) (who : List ℕ) (change : Change) → refusal journal who change ≡ None → is_due change (vault journal who) ≡ true
due journal who (Upload c) accepted = ap not (has-vault journal who c) ∙ by (is_same c.head.owner who) (holds journal who c) accepted
  where
    by : (s h : Bool) → cond (not s) (Some NotIssuer) (cond h (Some AlreadyHeld) None) ≡ None → not (s && h) ≡ true
    by true true refused = cc
    by true false fresh = refl
    by false h refused = refl
due journal who (Withdraw c) accepted = has-vault journal who c ∙ by (is_same c.head.owner who) (holds journal who c) accepted
  where
    by : (s h : Bool) → cond (not s) (Some NotIssuer) (cond h None (Some NotHeld)) ≡ None → (s && h) ≡ true
    by true true held = refl
    by true false refused = cc
    by false h refused = cc
due journal who (Grant reader) accepted = refl
due journal who (Revoke reader) accepted = refl
due journal who GrantAll accepted = refl
due journal who RevokeAll accepted = refl

-- where nothing refuses a change before its rows are looked at, they decide
decided : (journal : List Entry) (who : List ℕ) (change : Change) → early_refusal journal who change ≡ None →
    refusal journal who change ≡ cond (is_due change (vault journal who)) None (Some AlreadyHeld)
decided journal who (Upload c) early =
    by (is_same c.head.owner who) (holds journal who c) early
    ∙ ap (λ (b : Bool). cond (not b) None (Some AlreadyHeld)) (sym (has-vault journal who c))
  where
    by : (s h : Bool) → cond s None (Some NotIssuer) ≡ None →
        cond (not s) (Some NotIssuer) (cond h (Some AlreadyHeld) None) ≡ cond (not (s && h)) None (Some AlreadyHeld)
    by true true early = refl
    by true false early = refl
    by false h refused = cc
decided journal who (Withdraw c) early =
    early ∙ ap (λ (b : Bool). cond b None (Some AlreadyHeld)) (sym (due journal who (Withdraw c) early))
decided journal who (Grant reader) early = early
decided journal who (Revoke reader) early = early
decided journal who GrantAll early = early
decided journal who RevokeAll early = early

-- but for an upload's, they are as it needs them
pub page_due : (journal : List Entry) (pages : BTreeMap (List ℕ) PageState) (who : List ℕ) (change : Change) → ArePages journal pages → early_refusal journal who change ≡ None →
    uploaded change ≡ None → is_due change (page_at pages who).rows ≡ true
page_due journal pages who change right early other = ap (λ (k : PageState). is_due change k.rows) (right who) ∙ by change early other
  where
    by : (x : Change) → early_refusal journal who x ≡ None → uploaded x ≡ None → is_due x (vault journal who) ≡ true
    by (Upload c) early upload = cc
    by (Withdraw c) early other = due journal who (Withdraw c) early
    by (Grant reader) early other = refl
    by (Revoke reader) early other = refl
    by GrantAll early other = refl
    by RevokeAll early other = refl

-- the change that they let be made is accepted
pub page_accepts : (journal : List Entry) (pages : BTreeMap (List ℕ) PageState) (who : List ℕ) (change : Change) → ArePages journal pages → early_refusal journal who change ≡ None →
    is_due change (page_at pages who).rows ≡ true → refusal journal who change ≡ None
page_accepts journal pages who change right early made =
    decided journal who change early
    ∙ ap (λ (b : Bool). cond b None (Some AlreadyHeld)) (ap (λ (k : PageState). is_due change k.rows) (sym (right who)) ∙ made)

-- and the fault of one that isn't made is its refusal, or want of memory
pub page_refuses : (journal : List Entry) (pages : BTreeMap (List ℕ) PageState) (who : List ℕ) (change : Change) (fault : VaultFault) → ArePages journal pages →
    early_refusal journal who change ≡ None → fault ≡ page_fault change (page_at pages who).rows → fault ≡ unwrap_or (refusal journal who change) Memory
page_refuses journal pages who change fault right early is =
    is ∙ ap (λ (k : PageState). page_fault change k.rows) (right who) ∙ by (is_due change (vault journal who))
    ∙ ap (λ (o : Option VaultFault). unwrap_or o Memory) (sym (decided journal who change early))
  where
    by : (b : Bool) → cond b Memory AlreadyHeld ≡ unwrap_or (cond b None (Some AlreadyHeld)) Memory
    by true = refl
    by false = refl

-- an accepted change, entered in the journal and kept on the pages: before is the journal, and after is it with its entry
pub pages_after : (journal before after : List Entry) (who : List ℕ) (change : Change) (old new : BTreeMap (List ℕ) PageState) → refusal journal who change ≡ None →
    ArePages journal old → KeepsChange who change old new → before ≡ journal → after ≡ before ++ entry who change ∷ [] → ArePages after new
pages_after journal before after who change old new accepted right keeps same entered =
    subst (λ (j : List Entry). ArePages j new) (sym (entered ∙ ap (λ (j : List Entry). j ++ entry who change ∷ []) same))
    (pages_push journal who change old new accepted right keeps)

pub count_after : (journal before after : List Entry) (who : List ℕ) (change : Change) (pages : BTreeMap (List ℕ) PageState) (n : ℕ) → ArePages journal pages →
    n ≡ (page_at pages who).changes + 1 → before ≡ journal → after ≡ before ++ entry who change ∷ [] → n ≡ length (entries_of who after)
count_after journal before after who change pages n right counted same entered =
    counted ∙ ap (λ (k : PageState). k.changes + 1) (right who) ∙ sym (changes_push journal who change)
    ∙ ap (λ (j : List Entry). length (entries_of who j)) (sym (entered ∙ ap (λ (j : List Entry). j ++ entry who change ∷ []) same))
