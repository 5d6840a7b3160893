-- What a journal owes after one entry more.
use Rattle.std.proofs.Common.{ℕ, Bool, true, false, cond, not, ◌+◌, ◌-◌, ◌*◌, ◌≤◌, ◌<◌, List, [], ◌∷◌, ◌++◌, ◌≡◌, ◌∙◌, ◌&&◌, ◌||◌, sym, ap, refl, subst, length, length-append, find, filter, reverse, arith, Option, Some, None, IsSome}
use Rattle.std.specs.List.{list_any}
use Rattle.std.specs.BTreeMap.{BTreeMap, get}
use Rattle.std.proofs.lemmas.Bool.{and_parts}
use Rattle.std.proofs.lemmas.Cmp.{eq_by_cmp_equiv}
use Rattle.std.proofs.lemmas.List.{reverse-append}
use Rattle.std.proofs.lemmas.List.Folds.{list_any-append}
use Rattle.std.proofs.lemmas.List.Sorted.{list_any-IsPermutation, IsPermutation-reverse}
use Rattle.names.specs.Name.{is_same, name_order}
use Rattle.names.proofs.SameNames.{same_from_is_same, is_same_itself}
use Rattle.std.specs.Ordering.{eq_by_cmp}
use Rattle.credential_text.specs.Credential.{credential_order}
use Rattle.vaults.specs.declared.changes.Change.{Change}
use Rattle.vaults.specs.declared.changes.Change.TheVariants.{Upload, Withdraw, Grant, Revoke, GrantAll, RevokeAll}
use Rattle.vaults.specs.declared.changes.Entry.{Entry}
use Rattle.vaults.specs.declared.faults.VaultFault.TheVariants.{NotIssuer, NotHeld, NotGranted}
use Rattle.vaults.specs.Journal.{gift, gives_same, entries_of, holds, granted, is_public, refusal, revokes}
use Rattle.vaults.specs.Kept.{subject_of, framed, entry_bytes}
use Rattle.vaults.specs.Owed.{gives, follows, lasts, owed}
use Rattle.vaults.specs.Page.{PageState}
use Rattle.vaults.specs.Book.{ArePages}
use Rattle.vaults.proofs.Orders.{credentials_exact}
use Rattle.vaults.proofs.LastEntries.{same_change, gift_itself, is_gift, stands_last, stands_entered}
use Rattle.vaults.proofs.PageLemmas.{page_missing}

entry : List ℕ → Change → Entry
entry who change = record { tenant = who; change = change }

-- an entry's bytes are counted by its names alone
pub length_row : (e : Entry) → length (entry_bytes e) ≡ length e.tenant + length (subject_of e.change) + 5
unfolding entry_bytes
length_row e = omega (arith, length-append (framed e.tenant) (framed (subject_of e.change)))

fewer : (g a b : Bool) (n : ℕ) → cond (g && not (a || b)) n 0 ≤ cond (g && not a) n 0
fewer false a b n = omega arith
fewer true true b n = omega arith
fewer true false true n = omega arith
fewer true false false n = omega arith

-- an entry more ends what stood, and adds nothing but itself
lasts_less : (e x : Entry) (later : List Entry) (n : ℕ) → cond (lasts e (later ++ x ∷ [])) n 0 ≤ cond (lasts e later) n 0
lasts_less e x later n =
    subst (λ (b : Bool). cond (gives e.change && not b) n 0 ≤ cond (lasts e later) n 0) (sym (list_any-append (follows e) later (x ∷ [])))
    (fewer (gives e.change) (list_any (follows e) later) (list_any (follows e) (x ∷ [])) n)

owed_push : (es : List Entry) (x : Entry) → owed (es ++ x ∷ []) ≤ owed es + owed (x ∷ [])
owed_push [] x = omega arith
owed_push (e ∷ es) x = omega (arith, owed_push es x, lasts_less e x es (length (entry_bytes e)))

owed_alone : (b : Bool) (n : ℕ) → cond (b && true) n 0 + 0 ≤ n
owed_alone true n = omega arith
owed_alone false n = omega arith

-- the last one that passes, where one stands in front
last_found : (p : Entry → Bool) (xs : List Entry) (e : Entry) → is_gift (find p (xs ++ e ∷ [])) ≡ cond (list_any p xs) (is_gift (find p xs)) (p e && gives e.change)
last_found p [] e = by (p e)
  where
    by : (b : Bool) → is_gift (cond b (Some e) None) ≡ (b && gives e.change)
    by true = refl
    by false = refl
last_found p (y ∷ ys) e = by (p y) (last_found p ys e)
  where
    by : (b : Bool) → is_gift (find p (ys ++ e ∷ [])) ≡ cond (list_any p ys) (is_gift (find p ys)) (p e && gives e.change) →
        is_gift (cond b (Some y) (find p (ys ++ e ∷ []))) ≡ cond (b || list_any p ys) (is_gift (cond b (Some y) (find p ys))) (p e && gives e.change)
    by true rest = refl
    by false rest = rest

last_in_front : (p : Entry → Bool) (e : Entry) (es : List Entry) →
    is_gift (find p (reverse (e ∷ es))) ≡ cond (list_any p es) (is_gift (find p (reverse es))) (p e && gives e.change)
last_in_front p e es =
    ap (λ (l : List Entry). is_gift (find p l)) (reverse-append (e ∷ []) es)
    ∙ last_found p (reverse es) e
    ∙ ap (λ (b : Bool). cond b (is_gift (find p (reverse es))) (p e && gives e.change)) (sym (list_any-IsPermutation p es (reverse es) (IsPermutation-reverse es)))

-- the entry of the tenant that gives the same is that one
the_same : (g e : Entry) → gives g.change ≡ true → follows g e ≡ true → gives e.change ≡ true → e ≡ g
the_same g e given about gave =
    let both : (is_same e.tenant g.tenant ≡ true) × (gives_same (gift e.change) (gift g.change) ≡ true) = and_parts _ _ about in
    let change : e.change ≡ g.change = sym (gift_itself e.change gave) ∙ same_change (gift e.change) (gift g.change) both.1 ∙ gift_itself g.change given in
    λ i. record { tenant = same_from_is_same e.tenant g.tenant both.0 i; change = change i }

-- what is taken back was owed
owed_taken : (g x : Entry) → gives g.change ≡ true → length (entry_bytes g) ≡ length (entry_bytes x) → follows g x ≡ true → gives x.change ≡ false →
    (es : List Entry) → is_gift (find (follows g) (reverse es)) ≡ true → length (entry_bytes x) + owed (es ++ x ∷ []) ≤ owed es
owed_taken g x given long taken ends [] last = cc
owed_taken g x given long taken ends (e ∷ es) last =
    by (list_any (follows g) es) refl (owed_taken g x given long taken ends es) (sym (last_in_front (follows g) e es) ∙ last)
  where
    by : (b : Bool) → list_any (follows g) es ≡ b → (is_gift (find (follows g) (reverse es)) ≡ true → length (entry_bytes x) + owed (es ++ x ∷ []) ≤ owed es) →
        cond b (is_gift (find (follows g) (reverse es))) (follows g e && gives e.change) ≡ true →
        length (entry_bytes x) + owed ((e ∷ es) ++ x ∷ []) ≤ owed (e ∷ es)
    by true later rest here = omega (arith, rest here, lasts_less e x es (length (entry_bytes e)))
    by false none rest here =
        let both : (follows g e ≡ true) × (gives e.change ≡ true) = and_parts _ _ here in
        let is : e ≡ g = the_same g e given both.0 both.1 in
        let stood : lasts e es ≡ true =
        ap (λ (d : Entry). gives d.change && not (list_any (follows d) es)) is ∙ ap (λ (b : Bool). b && not (list_any (follows g) es)) given ∙ ap not none in
        let ended : lasts e (es ++ x ∷ []) ≡ false =
        ap (λ (d : Entry). gives d.change && not (list_any (follows d) (es ++ x ∷ []))) is ∙ ap (λ (b : Bool). b && not (list_any (follows g) (es ++ x ∷ []))) given
        ∙ ap not (list_any-append (follows g) es (x ∷ []) ∙ ap (λ (b : Bool). b || list_any (follows g) (x ∷ [])) none ∙ ap (λ (b : Bool). b || false) taken) in
        let before : cond (lasts e es) (length (entry_bytes e)) 0 ≡ length (entry_bytes e) = ap (λ (b : Bool). cond b (length (entry_bytes e)) 0) stood in
        let after : cond (lasts e (es ++ x ∷ [])) (length (entry_bytes e)) 0 ≡ 0 = ap (λ (b : Bool). cond b (length (entry_bytes e)) 0) ended in
        let alone : owed (x ∷ []) ≡ 0 = ap (λ (b : Bool). cond (b && true) (length (entry_bytes x)) 0 + 0) ends in
        omega (arith, before, after, alone, owed_push es x, ap (λ (d : Entry). length (entry_bytes d)) is, long)

-- an accepted revocation is of what is granted, and an accepted withdrawal of what is held
was_granted : (same given : Bool) → cond (not same && given) None (Some NotGranted) ≡ None → given ≡ true
was_granted true given refused = cc
was_granted false true accepted = refl
was_granted false false refused = cc

was_public : (given : Bool) → cond given None (Some NotGranted) ≡ None → given ≡ true
was_public true accepted = refl
was_public false refused = cc

was_held : (own held : Bool) → cond (not own) (Some NotIssuer) (cond held None (Some NotHeld)) ≡ None → held ≡ true
was_held false held refused = cc
was_held true true accepted = refl
was_held true false refused = cc

-- what takes back is as long as what it takes back
long_alike : (who : List ℕ) (gift change : Change) → subject_of gift ≡ subject_of change → length (entry_bytes (entry who gift)) ≡ length (entry_bytes (entry who change))
unfolding entry
long_alike who gift change same = length_row (entry who gift) ∙ ap (λ (text : List ℕ). length who + length text + 5) same ∙ sym (length_row (entry who change))

-- so what is taken back makes room for its entry
taken : (es : List Entry) (who : List ℕ) (change : Change) → refusal es who change ≡ None → gives change ≡ false → length (entry_bytes (entry who change)) + owed (es ++ entry who change ∷ []) ≤ owed es
unfolding entry
taken es who (Upload c) accepted takes = cc
taken es who (Grant reader) accepted takes = cc
taken es who GrantAll accepted takes = cc
taken es who (Revoke reader) accepted takes =
    owed_taken (entry who (Grant reader)) (entry who (Revoke reader)) refl (long_alike who (Grant reader) (Revoke reader) refl)
    (ap (λ (b : Bool). b && is_same reader reader) (is_same_itself who who refl) ∙ is_same_itself reader reader refl) refl
    es (sym (stands_last es who (Grant reader)) ∙ was_granted (is_same reader who) (granted es who reader) accepted)
taken es who (Withdraw c) accepted takes =
    owed_taken (entry who (Upload c)) (entry who (Withdraw c)) refl (long_alike who (Upload c) (Withdraw c) refl)
    (ap (λ (b : Bool). b && eq_by_cmp credential_order c c) (is_same_itself who who refl) ∙ (eq_by_cmp_equiv credentials_exact.total).refl c) refl
    es (sym (stands_last es who (Upload c)) ∙ was_held (is_same c.head.owner who) (holds es who c) accepted)
taken es who RevokeAll accepted takes =
    owed_taken (entry who GrantAll) (entry who RevokeAll) refl (long_alike who GrantAll RevokeAll refl)
    (ap (λ (b : Bool). b && true) (is_same_itself who who refl)) refl
    es (sym (stands_last es who GrantAll) ∙ was_public (is_public es who) accepted)

-- the room that a row takes: it is owed, or taken beside what is owed, once for the row and once for the one that takes it back
pub record IsRoom (es : List Entry) (who : List ℕ) (change : Change) (row room len capacity : ℕ) : Type 0 where
  pub row_fits : len + row ≤ capacity
  pub room_fits : gives change ≡ false → row ≤ room
  pub owed_fits : owed (es ++ record { tenant = who; change = change } ∷ []) ≤ cond (gives change) (room + row) (room - row)
  pub all_fits : len + row + cond (gives change) (room + row) (room - row) ≤ capacity

pub is_room : (es : List Entry) (who : List ℕ) (change : Change) (row room len capacity : ℕ) → refusal es who change ≡ None →
    row ≡ length who + length (subject_of change) + 5 → owed es ≤ room → len + room ≤ capacity → (gives change ≡ true → len + (room + 2 * (length who + length (subject_of change) + 5)) ≤ capacity) → IsRoom es who change row room len capacity
unfolding entry
is_room es who change row room len capacity accepted is_row owes has_room makes =
    by (gives change) refl
  where
    long : length (entry_bytes (entry who change)) ≡ row
    long = length_row (entry who change) ∙ sym is_row

    by : (b : Bool) → gives change ≡ b → IsRoom es who change row room len capacity
    by true given =
        let more : len + (room + 2 * (length who + length (subject_of change) + 5)) ≤ capacity = makes given in
        let after : cond (gives change) (room + row) (room - row) ≡ room + row = ap (λ (b : Bool). cond b (room + row) (room - row)) given in
        let one : owed (entry who change ∷ []) ≤ length (entry_bytes (entry who change)) = owed_alone (gives change) (length (entry_bytes (entry who change))) in
        record {
          row_fits = omega arith;
          room_fits = λ takes. let never : true ≡ false = sym given ∙ takes in cc;
          owed_fits = omega (arith, owed_push es (entry who change), one, long);
          all_fits = omega arith;
        }
    by false takes =
        let less : length (entry_bytes (entry who change)) + owed (es ++ entry who change ∷ []) ≤ owed es = taken es who change accepted takes in
        let after : cond (gives change) (room + row) (room - row) ≡ room - row = ap (λ (b : Bool). cond b (room + row) (room - row)) takes in
        record {
          row_fits = omega (arith, less, long);
          room_fits = λ _. omega (arith, less, long);
          owed_fits = omega (arith, less, long);
          all_fits = omega (arith, less, long);
        }

some_kept : {X : Type 0} (p : X → Bool) (xs : List X) → list_any p xs ≡ true → 0 < length (filter p xs)
some_kept p [] some = cc
some_kept {X} p (x ∷ xs) some = by (p x) (some_kept p xs) some
  where
    by : (b : Bool) → (list_any p xs ≡ true → 0 < length (filter p xs)) → (b || list_any p xs) ≡ true → 0 < length (cond b (x ∷ filter p xs) (filter p xs))
    by true rest some = omega arith
    by false rest some = rest some

-- who revokes has an entry
revoker_entered : (journal : List Entry) (who : List ℕ) (change : Change) → refusal journal who change ≡ None → revokes change ≡ true → list_any (λ e. is_same e.tenant who) journal ≡ true
revoker_entered journal who (Upload c) accepted revoked = cc
revoker_entered journal who (Withdraw c) accepted revoked = cc
revoker_entered journal who (Grant reader) accepted revoked = cc
revoker_entered journal who (Revoke reader) accepted revoked = stands_entered (Grant reader) journal who (was_granted (is_same reader who) (granted journal who reader) accepted)
revoker_entered journal who GrantAll accepted revoked = cc
revoker_entered journal who RevokeAll accepted revoked = stands_entered GrantAll journal who (was_public (is_public journal who) accepted)

-- and so a page
pub revoker_has_page : (journal : List Entry) (who : List ℕ) (change : Change) (pages : BTreeMap (List ℕ) PageState) → ArePages journal pages →
    refusal journal who change ≡ None → revokes change ≡ true → IsSome (get name_order pages who)
revoker_has_page journal who change pages right accepted revoked = by (get name_order pages who) refl
  where
    by : (o : Option PageState) → get name_order pages who ≡ o → IsSome o
    by (Some page) found = refl
    by None none =
        let nothing : 0 ≡ length (entries_of who journal) = ap (λ (p : PageState). p.changes) (page_missing journal pages who right (sym none)) in
        absurd (omega (arith, some_kept (λ (e : Entry). is_same e.tenant who) journal (revoker_entered journal who change accepted revoked)))
