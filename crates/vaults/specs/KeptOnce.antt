-- Bytes tell their entries: no bytes are those of two lists of entries.
use Rattle.std.specs.Prelude.{ℕ, List, [], ◌∷◌, ◌++◌, ◌≡◌, ◌/◌, ◌%◌, length, take, drop}
use Rattle.std.specs.List.{AllByRecursion, AllByRecursion-prop}
use Rattle.std.specs.Coded.{×_prop, Unit-prop, le_prop, Coded-set, coded_list, coded_ℕ}
use mathlib.Core.Bool.{Bool-set}
use mathlib.Core.HLevel.{Σ_prop_path}
use Rattle.std.proofs.Common.{arith, ap, sym, refl, subst, ◌∙◌, append_assoc}
use Rattle.std.proofs.Math.Seq.{take-append_seam, drop-append_seam}
use Rattle.credential_text.specs.declared.credentials.Credential.{Credential}
use Rattle.credential_text.specs.declared.exprs.Expr.{Expr}
use Rattle.credential_text.specs.declared.exprs.Expr.TheVariants.{Ent, Rol, Link, Meet}
use Rattle.credential_text.specs.Expr.{HasPartsInRange}
use Rattle.credential_text.specs.Credential.{IsCredential}
use Rattle.credential_text.specs.Spelling.{Spells, canonical}
use Rattle.credential_text.proofs.Canonical.{canonical_spells}
use Rattle.credential_text.proofs.Showing.{no_text_spells_two}
use Rattle.vaults.specs.declared.changes.Change.{Change}
use Rattle.vaults.specs.declared.changes.Change.TheVariants.{Upload, Withdraw, Grant, Revoke, GrantAll, RevokeAll}
use Rattle.vaults.specs.declared.changes.Entry.{Entry}
use Rattle.vaults.specs.Kept.{kind_of, subject_of, framed, entry_bytes, journal_bytes, HasNames, IsNamed, AreKept, Kept}

-- a text behind its length is told from what follows it
pub framed_tells : (a b x y : List ℕ) → framed a ++ x ≡ framed b ++ y → (a ≡ b) × (x ≡ y)
framed_tells a b x y same =
    let high : length a / 256 ≡ length b / 256 = cc in
    let low : length a % 256 ≡ length b % 256 = cc in
    let long : length a ≡ length b = omega arith in
    let rest : a ++ x ≡ b ++ y = cc in (
      sym (take-append_seam a x) ∙ ap (λ (n : ℕ). take n (a ++ x)) long ∙ ap (take (length b)) rest ∙ take-append_seam b y,
      sym (drop-append_seam a x) ∙ ap (λ (n : ℕ). drop n (a ++ x)) long ∙ ap (drop (length b)) rest ∙ drop-append_seam b y,
    )

canonical_tells : (c d : Credential) → IsCredential c → IsCredential d → canonical c ≡ canonical d → c ≡ d
canonical_tells c d named others same =
    no_text_spells_two (canonical c) c d (canonical_spells c named)
    (subst (λ (text : List ℕ). Spells text d) (sym same) (canonical_spells d others))

-- a change is told by its kind and its subject
change_tells : (c d : Change) → HasNames c → HasNames d → kind_of c ≡ kind_of d → subject_of c ≡ subject_of d → c ≡ d
change_tells (Upload c) (Upload d) named others kind same = ap Upload (canonical_tells c d named others same)
change_tells (Upload c) _ named others kind same = absurd (omega arith)
change_tells (Withdraw c) (Withdraw d) named others kind same = ap Withdraw (canonical_tells c d named others same)
change_tells (Withdraw c) _ named others kind same = absurd (omega arith)
change_tells (Grant r) (Grant s) named others kind same = ap Grant same
change_tells (Grant r) _ named others kind same = absurd (omega arith)
change_tells (Revoke r) (Revoke s) named others kind same = ap Revoke same
change_tells (Revoke r) _ named others kind same = absurd (omega arith)
change_tells GrantAll GrantAll named others kind same = refl
change_tells GrantAll _ named others kind same = absurd (omega arith)
change_tells RevokeAll RevokeAll named others kind same = refl
change_tells RevokeAll _ named others kind same = absurd (omega arith)

-- an entry is told from what follows it
pub entry_tells : (e f : Entry) (x y : List ℕ) → IsNamed e → IsNamed f → entry_bytes e ++ x ≡ entry_bytes f ++ y → (e ≡ f) × (x ≡ y)
unfolding entry_bytes
entry_tells e f x y named others same =
    let kind : kind_of e.change ≡ kind_of f.change = cc in
    let behind : (framed e.tenant ++ framed (subject_of e.change)) ++ x ≡ (framed f.tenant ++ framed (subject_of f.change)) ++ y = cc in
    let first : (e.tenant ≡ f.tenant) × (framed (subject_of e.change) ++ x ≡ framed (subject_of f.change) ++ y) =
    framed_tells e.tenant f.tenant (framed (subject_of e.change) ++ x) (framed (subject_of f.change) ++ y)
    (sym (append_assoc (framed e.tenant) (framed (subject_of e.change)) x) ∙ behind
    ∙ append_assoc (framed f.tenant) (framed (subject_of f.change)) y) in
    let second : (subject_of e.change ≡ subject_of f.change) × (x ≡ y) =
    framed_tells (subject_of e.change) (subject_of f.change) x y first.1 in
    let change : e.change ≡ f.change = change_tells e.change f.change named.1 others.1 kind second.0 in
    (λ i. record { tenant = first.0 i; change = change i }, second.1)

-- so entries are told by their bytes
pub entries_tell : (es fs : List Entry) → AllByRecursion IsNamed es → AllByRecursion IsNamed fs →
    journal_bytes es ≡ journal_bytes fs → es ≡ fs
unfolding entry_bytes
entries_tell [] [] named others same = refl
entries_tell [] (f ∷ fs) named others same = cc
entries_tell (e ∷ es) [] named others same = cc
entries_tell (e ∷ es) (f ∷ fs) named others same =
    let first : (e ≡ f) × (journal_bytes es ≡ journal_bytes fs) =
    entry_tells e f (journal_bytes es) (journal_bytes fs) named.0 others.0 same in
    let rest : es ≡ fs = entries_tell es fs named.1 others.1 first.1 in
    λ i. first.0 i ∷ rest i

-- the same bytes are the same entries
pub same_entries : (xs ys : List ℕ) (es fs : List Entry) → AreKept xs es → AreKept ys fs → xs ≡ ys → es ≡ fs
same_entries xs ys es fs kept others same = entries_tell es fs kept.0 others.0 (sym kept.1 ∙ same ∙ others.1)

range_prop : (e : Expr) → IsProp (HasPartsInRange e)
range_prop (Ent e) = Unit-prop
range_prop (Rol r) = Unit-prop
range_prop (Link r n) = Unit-prop
range_prop (Meet ps) = ×_prop le_prop le_prop

credential_prop : (c : Credential) → IsProp (IsCredential c)
credential_prop c p q = λ i. record {
  owner = Bool-set _ _ p.owner q.owner i;
  name = Bool-set _ _ p.name q.name i;
  names = Bool-set _ _ p.names q.names i;
  parts = range_prop c.body p.parts q.parts i;
}

names_prop : (change : Change) → IsProp (HasNames change)
names_prop (Upload c) = credential_prop c
names_prop (Withdraw c) = credential_prop c
names_prop (Grant reader) = Bool-set _ _
names_prop (Revoke reader) = Bool-set _ _
names_prop GrantAll = Unit-prop
names_prop RevokeAll = Unit-prop

-- there is one such list at most
pub kept_prop : (bytes : List ℕ) → IsProp (Kept bytes)
kept_prop bytes p q = Σ_prop_path
    (λ es. ×_prop (AllByRecursion-prop IsNamed (λ e. ×_prop (Bool-set _ _) (names_prop e.change)) es)
    (Coded-set (coded_list coded_ℕ) bytes (journal_bytes es)))
    (same_entries bytes bytes p.0 q.0 p.1 q.1 refl)
