-- Entries as bytes: what fits, one entry more, and the first one read again.
use Rattle.std.proofs.Common.{ℕ, ◌<◌, ◌≤◌, ◌^◌, List, [], ◌∷◌, ◌++◌, ◌≡◌, ◌∙◌, sym, ap, refl, subst, length, length-append, append_assoc, arith, ◌-◌, Option, Some, None, MatchOption, slice_index_or, take, drop}
use Rattle.std.specs.List.{AllByRecursion}
use Rattle.std.proofs.lemmas.Bool.{leb-true}
use Rattle.std.proofs.lemmas.List.{append-nil, take_all}
use Rattle.std.proofs.lemmas.List.Concat.{flat_map-append}
use Rattle.names.specs.Name.{IsName}
use Rattle.names.proofs.Avoiding.{NameParts, name_parts}
use Rattle.credential_text.specs.declared.credentials.Credential.{Credential}
use Rattle.credential_text.specs.Credential.{IsCredential}
use Rattle.credential_text.specs.Spelling.{Spells, canonical}
use Rattle.credential_text.proofs.Canonical.{canonical_is_short, canonical_spells}
use Rattle.credential_text.proofs.Showing.{no_text_spells_two}
use Rattle.vaults.specs.declared.changes.Change.{Change}
use Rattle.vaults.specs.declared.changes.Change.TheVariants.{Upload, Withdraw, Grant, Revoke, GrantAll, RevokeAll}
use Rattle.vaults.specs.declared.changes.Entry.{Entry}
use Rattle.vaults.specs.Kept.{kind_of, subject_of, framed, row_bytes, entry_bytes, journal_bytes, HasNames, IsNamed, AreKept, Kept}

pub name_fits : (text : List ℕ) → IsName text → length text < 2 ^ 16
name_fits [] name = omega arith
name_fits (b ∷ bs) name = let parts : NameParts b bs = name_parts b bs name in omega (arith, leb-true (length (b ∷ bs)) 64 parts.short)

pub subject_fits : (change : Change) → HasNames change → length (subject_of change) < 2 ^ 16
subject_fits (Upload c) named = omega (arith, canonical_is_short c named)
subject_fits (Withdraw c) named = omega (arith, canonical_is_short c named)
subject_fits (Grant reader) named = name_fits reader named
subject_fits (Revoke reader) named = name_fits reader named
subject_fits GrantAll named = omega arith
subject_fits RevokeAll named = omega arith

-- each entry has a byte
entries_fit : (es : List Entry) → length es ≤ length (journal_bytes es)
unfolding entry_bytes
entries_fit [] = omega arith
entries_fit (e ∷ es) =
    omega (arith, entries_fit es, length-append (row_bytes (kind_of e.change) e.tenant (subject_of e.change)) (journal_bytes es), length-append (framed e.tenant) (framed (subject_of e.change)))

-- so there are no more entries than bytes
pub kept_fit : (bytes : List ℕ) (es : List Entry) → AreKept bytes es → length es ≤ length bytes
kept_fit bytes es kept = omega (arith, entries_fit es, ap length kept.1)

named_push : (es : List Entry) (e : Entry) → AllByRecursion IsNamed es → IsNamed e → AllByRecursion IsNamed (es ++ e ∷ [])
named_push [] e all named = (named, tt)
named_push (d ∷ es) e all named = (all.0, named_push es e all.1 named)

-- an entry more
pub kept_push : (bytes new tenant subject : List ℕ) (kind : ℕ) (es : List Entry) (who : List ℕ) (change : Change) → AreKept bytes es → IsName who → HasNames change →
    kind ≡ kind_of change → tenant ≡ who → subject ≡ subject_of change → new ≡ bytes ++ row_bytes kind tenant subject → AreKept new (es ++ record { tenant = who; change = change } ∷ [])
unfolding entry_bytes
kept_push bytes new tenant subject kind es who change kept named names is_kind is_tenant is_subject appended = (
  named_push es (record { tenant = who; change = change }) kept.0 (named, names),
  appended
      ∙ ap (λ (k : ℕ). bytes ++ row_bytes k tenant subject) is_kind
      ∙ ap (λ (t : List ℕ). bytes ++ row_bytes (kind_of change) t subject) is_tenant
      ∙ ap (λ (s : List ℕ). bytes ++ row_bytes (kind_of change) who s) is_subject
      ∙ ap (λ (bs : List ℕ). bs ++ row_bytes (kind_of change) who (subject_of change)) kept.1
      ∙ ap (λ (bs : List ℕ). journal_bytes es ++ bs) (sym (append-nil (row_bytes (kind_of change) who (subject_of change))))
      ∙ sym (flat_map-append entry_bytes es (record { tenant = who; change = change } ∷ [])),
)

-- the first byte of an entry is its kind, and behind that stand its tenant and what it is about
pub behind_kind : (e : Entry) (bytes rest : List ℕ) → bytes ≡ entry_bytes e ++ rest →
    (slice_index_or bytes 0 0 ≡ kind_of e.change)
    × (take (length bytes - 1) (drop 1 bytes) ≡ framed e.tenant ++ (framed (subject_of e.change) ++ rest))
unfolding entry_bytes
behind_kind e bytes rest same =
    let others : List ℕ = framed e.tenant ++ (framed (subject_of e.change) ++ rest) in
    let whole : bytes ≡ kind_of e.change ∷ others =
    same ∙ ap (λ (bs : List ℕ). kind_of e.change ∷ bs) (append_assoc (framed e.tenant) (framed (subject_of e.change)) rest) in (
      ap (λ (bs : List ℕ). slice_index_or bs 0 0) whole,
      ap (λ (bs : List ℕ). take (length bs - 1) (drop 1 bs)) whole
          ∙ take_all (length (kind_of e.change ∷ others) - 1) others (omega arith),
    )

-- no entry has no bytes
pub some_bytes : (e : Entry) (bytes rest : List ℕ) → length bytes < 1 → bytes ≡ entry_bytes e ++ rest → ⊥
unfolding entry_bytes
some_bytes e bytes rest none same = let long : length bytes ≡ length (entry_bytes e ++ rest) = ap length same in omega arith

-- what was read of a text: a credential that it spells, a reader that it names, or nothing
abbrev pub IsReadOf : Change → List ℕ → Type 0
IsReadOf (Upload c) text = Spells text c
IsReadOf (Withdraw c) text = Spells text c
IsReadOf (Grant reader) text = reader ≡ text
IsReadOf (Revoke reader) text = reader ≡ text
IsReadOf GrantAll text = Unit {0}
IsReadOf RevokeAll text = Unit {0}

one_credential : (text : List ℕ) (c d : Credential) → IsCredential d → Spells text c → text ≡ canonical d → c ≡ d
one_credential text c d named read is =
    no_text_spells_two text c d read (subst (λ (t : List ℕ). Spells t d) (sym is) (canonical_spells d named))

-- of the kind and the text of a change nothing else is read
pub one_change : (read change : Change) (text : List ℕ) → HasNames change → kind_of read ≡ kind_of change → IsReadOf read text → text ≡ subject_of change →
    read ≡ change
one_change (Upload c) (Upload d) text named kind read is = ap Upload (one_credential text c d named read is)
one_change (Upload c) _ text named kind read is = absurd (omega arith)
one_change (Withdraw c) (Withdraw d) text named kind read is = ap Withdraw (one_credential text c d named read is)
one_change (Withdraw c) _ text named kind read is = absurd (omega arith)
one_change (Grant r) (Grant s) text named kind read is = ap Grant (read ∙ is)
one_change (Grant r) _ text named kind read is = absurd (omega arith)
one_change (Revoke r) (Revoke s) text named kind read is = ap Revoke (read ∙ is)
one_change (Revoke r) _ text named kind read is = absurd (omega arith)
one_change GrantAll GrantAll text named kind read is = refl
one_change GrantAll _ text named kind read is = absurd (omega arith)
one_change RevokeAll RevokeAll text named kind read is = refl
one_change RevokeAll _ text named kind read is = absurd (omega arith)

-- what is cut off bytes and read is the first entry that they keep
pub kept_first : {C : Type 0} (bytes : List ℕ) (kept : Kept bytes) (found : C) (kind : ℕ) (tenant subject behind : List ℕ) (read : Option Entry) →
    (bytes ≡ [] → Some found ≡ None) →
    ((e : Entry) (rest : List ℕ) → bytes ≡ entry_bytes e ++ rest →
    (kind ≡ kind_of e.change) × (tenant ≡ e.tenant) × (subject ≡ subject_of e.change) × (behind ≡ rest)) →
    ((e : Entry) → IsNamed e → kind ≡ kind_of e.change → tenant ≡ e.tenant → subject ≡ subject_of e.change → read ≡ Some e) →
    (e : Entry) × (es : List Entry) × (read ≡ Some e) × (kept.0 ≡ e ∷ es) × AreKept behind es
kept_first bytes ([], kept) found kind tenant subject behind read nothing cut reads = let none : Some found ≡ None = nothing kept.1 in cc
kept_first bytes (e ∷ es, kept) found kind tenant subject behind read nothing cut reads =
    let parts : (kind ≡ kind_of e.change) × (tenant ≡ e.tenant) × (subject ≡ subject_of e.change) × (behind ≡ journal_bytes es) =
    cut e (journal_bytes es) kept.1 in
    (e, es, reads e kept.0.0 parts.0 parts.1 parts.2, refl, (kept.0.1, parts.3))

-- what is read is the first of the entries, and what is left are the others
pub told_next : (old new : List Entry) (read : Option Entry) (e : Entry) (es : List Entry) → read ≡ Some e → old ≡ e ∷ es → es ≡ new →
    MatchOption read ((old ≡ []) × (new ≡ [])) (λ entry. old ≡ entry ∷ new)
told_next old new read e es is first rest =
    subst (λ (o : Option Entry). MatchOption o ((old ≡ []) × (new ≡ [])) (λ entry. old ≡ entry ∷ new)) (sym is)
    (first ∙ ap (λ (l : List Entry). e ∷ l) rest)

-- where nothing can be cut off there is none
pub kept_none : (bytes : List ℕ) (kept : Kept bytes) → ((e : Entry) (rest : List ℕ) → bytes ≡ entry_bytes e ++ rest → ⊥) → kept.0 ≡ []
kept_none bytes ([], kept) none = refl
kept_none bytes (e ∷ es, kept) none = absurd (none e (journal_bytes es) kept.1)
