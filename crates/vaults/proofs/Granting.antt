-- Who has granted whom and whose vaults are public, as a book keeps it, and the names that a tenant reads.
use Rattle.std.proofs.Common.{ℕ, Bool, true, false, cond, not, List, [], ◌∷◌, ◌++◌, ◌≡◌, ◌∙◌, ◌||◌, ◌&&◌, sym, ap, refl, subst, map, Option, Some, None, unwrap_or}
use Rattle.std.specs.List.{AllByRecursion}
use Rattle.std.specs.BTreeMap.{BTreeMap, get}
use Rattle.std.specs.BTreeSet.{insert_key}
use Rattle.std.specs.Ordering.{eq_by_cmp}
use Rattle.std.proofs.Math.Bool.{or_assoc}
use Rattle.std.proofs.lemmas.List.Elements.{recursion_from_All}
use Rattle.names.specs.Name.{is_same, name_order}
use Rattle.vaults.specs.declared.changes.Change.{Change}
use Rattle.vaults.specs.declared.changes.Change.TheVariants.{Upload, Withdraw, Grant, Revoke, GrantAll, RevokeAll}
use Rattle.vaults.specs.declared.changes.Entry.{Entry}
use Rattle.vaults.specs.declared.faults.VaultFault.TheVariants.{GrantSelf, AlreadyGranted}
use Rattle.vaults.specs.InOrder.{without}
use Rattle.vaults.specs.declared.marks.Seen.{Seen}
use Rattle.vaults.specs.Journal.{gift, gives_same, granted, is_public, marked_names, names_in}
use Rattle.vaults.specs.Owed.{gives}
use Rattle.vaults.specs.Book.{early_refusal, is_granting, AreGranting, KeepsGrant, SameGranting, is_listed, ArePublic, KeepsPublic, KeepsGift, SameGifts, EndsGift}
use Rattle.vaults.specs.Merge.{AreMerged}
use Rattle.vaults.proofs.Elements.{has, has-insert_key, has-without, same_in_order, tied_both_ways}
use Rattle.names.proofs.SameNames.{is_same_tied, same_from_is_same}
use Rattle.vaults.proofs.Orders.{names_exact}
use Rattle.vaults.proofs.LastEntries.{stands_push}
use Rattle.vaults.proofs.Exactness.{with_mark, names_seen, has-names_seen, sorted-names_seen}

and_false : (a : Bool) (x y : Bool) → cond (a && false) x y ≡ y
and_false true x y = refl
and_false false x y = refl

and_true : (a : Bool) (x y : Bool) → cond (a && true) x y ≡ cond a x y
and_true true x y = refl
and_true false x y = refl

never : (a : Bool) → (a && false) ≡ true → ⊥
never true both = cc
never false both = cc

-- one reader's list is written, with the owner in it or out of it
granting_written : (owner reader : List ℕ) (b : Bool) (names : List (List ℕ)) (old new : BTreeMap (List ℕ) (List (List ℕ))) →
    ((other : List ℕ) → get name_order new other ≡ cond (eq_by_cmp name_order reader other) (Some names) (get name_order old other)) →
    ((other : List ℕ) → has name_order names other ≡ cond (is_same owner other) b (is_granting old other reader)) →
    (o r : List ℕ) → is_granting new o r ≡ cond (is_same owner o && is_same reader r) b (is_granting old o r)
granting_written owner reader b names old new writes keeps o r =
    ap (λ (l : Option (List (List ℕ))). has name_order (unwrap_or l []) o) (writes r) ∙ by (is_same reader r) refl
  where
    by : (same : Bool) → is_same reader r ≡ same →
        has name_order (unwrap_or (cond (eq_by_cmp name_order reader r) (Some names) (get name_order old r)) []) o ≡ cond (is_same owner o && same) b (is_granting old o r)
    by true same =
        ap (λ (t : Bool). has name_order (unwrap_or (cond t (Some names) (get name_order old r)) []) o) (is_same_tied reader r ∙ same)
        ∙ keeps o ∙ sym (and_true (is_same owner o) b (is_granting old o reader))
        ∙ ap (λ (n : List ℕ). cond (is_same owner o && true) b (is_granting old o n)) (same_from_is_same reader r same)
    by false apart =
        ap (λ (t : Bool). has name_order (unwrap_or (cond t (Some names) (get name_order old r)) []) o) (is_same_tied reader r ∙ apart)
        ∙ sym (and_false (is_same owner o) b (is_granting old o r))

added_then : (e h : Bool) → (e || h) ≡ cond e true h
added_then true h = refl
added_then false h = refl

dropped_then : (e h : Bool) → (not e && h) ≡ cond e false h
dropped_then true h = refl
dropped_then false h = refl

-- with the owner put in, it is as after a grant
pub granting_added : (owner reader : List ℕ) (was names : List (List ℕ)) (old new : BTreeMap (List ℕ) (List (List ℕ))) → was ≡ unwrap_or (get name_order old reader) [] →
    names ≡ insert_key name_order was owner →
    ((other : List ℕ) → get name_order new other ≡ cond (eq_by_cmp name_order reader other) (Some names) (get name_order old other)) → KeepsGrant owner (Grant reader) old new
granting_added owner reader was names old new before after writes =
    granting_written owner reader true names old new writes (λ other.
    ap (λ (l : List (List ℕ)). has name_order l other) after ∙ has-insert_key names_exact was owner other
    ∙ added_then (eq_by_cmp name_order other owner) (has name_order was other)
    ∙ ap (λ (e : Bool). cond e true (has name_order was other)) (tied_both_ways names_exact other owner ∙ is_same_tied owner other)
    ∙ ap (λ (l : List (List ℕ)). cond (is_same owner other) true (has name_order l other)) before)

-- with the owner taken out, it is as after a revocation
pub granting_dropped : (owner reader : List ℕ) (was names : List (List ℕ)) (old new : BTreeMap (List ℕ) (List (List ℕ))) → was ≡ unwrap_or (get name_order old reader) [] →
    names ≡ without name_order owner was →
    ((other : List ℕ) → get name_order new other ≡ cond (eq_by_cmp name_order reader other) (Some names) (get name_order old other)) → KeepsGrant owner (Revoke reader) old new
granting_dropped owner reader was names old new before after writes =
    granting_written owner reader false names old new writes (λ other.
    ap (λ (l : List (List ℕ)). has name_order l other) after ∙ has-without names_exact was owner other
    ∙ dropped_then (eq_by_cmp name_order owner other) (has name_order was other)
    ∙ ap (λ (e : Bool). cond e false (has name_order was other)) (is_same_tied owner other)
    ∙ ap (λ (l : List (List ℕ)). cond (is_same owner other) false (has name_order l other)) before)

-- what concerns no reader leaves each reader the owners that it had, and what isn't for all leaves the public vaults
pub granting_stays : (who : List ℕ) (change : Change) (granting : BTreeMap (List ℕ) (List (List ℕ))) → ((reader : List ℕ) → gives_same (gift change) (Grant reader) ≡ false) → KeepsGrant who change granting granting
granting_stays who change granting none owner reader =
    sym (ap (λ (b : Bool). cond (is_same who owner && b) (gives change) (is_granting granting owner reader)) (none reader) ∙ and_false (is_same who owner) (gives change) (is_granting granting owner reader))

pub public_stays : (who : List ℕ) (change : Change) (public : List (List ℕ)) → gives_same (gift change) GrantAll ≡ false → KeepsPublic who change public public
public_stays who change public none owner =
    sym (ap (λ (b : Bool). cond (is_same who owner && b) (gives change) (is_listed public owner)) none ∙ and_false (is_same who owner) (gives change) (is_listed public owner))

-- a grant to a reader is kept
pub reader_given : (who : List ℕ) (change : Change) (reader : List ℕ) (old new : BTreeMap (List ℕ) (List (List ℕ))) (public : List (List ℕ)) →
    change ≡ Grant reader → KeepsGrant who (Grant reader) old new → KeepsGift who change old new public public
reader_given who change reader old new public is adds = (
  subst (λ (x : Change). KeepsGrant who x old new) (sym is) adds,
  public_stays who change public (ap (λ (x : Change). gives_same (gift x) GrantAll) is),
)

-- public reading is kept
pub all_given : (who : List ℕ) (change : Change) (granting : BTreeMap (List ℕ) (List (List ℕ))) (old new : List (List ℕ)) →
    change ≡ GrantAll → KeepsPublic who GrantAll old new → KeepsGift who change granting granting old new
all_given who change granting old new is adds = (
  granting_stays who change granting (λ reader. ap (λ (x : Change). gives_same (gift x) (Grant reader)) is),
  subst (λ (x : Change). KeepsPublic who x old new) (sym is) adds,
)

-- a reader's grant has ended
pub reader_ended : (who : List ℕ) (change : Change) (reader : List ℕ) (old new : BTreeMap (List ℕ) (List (List ℕ))) (public : List (List ℕ)) →
    gift change ≡ Grant reader → KeepsGrant who (Revoke reader) old new → EndsGift who change old new public public
reader_ended who change reader old new public is drops = (
  λ owner other. drops owner other ∙ ap (λ (x : Change). cond (is_same who owner && gives_same x (Grant other)) false (is_granting old owner other)) (sym is),
  λ owner. sym (ap (λ (x : Change). cond (is_same who owner && gives_same x GrantAll) false (is_listed public owner)) is ∙ and_false (is_same who owner) false (is_listed public owner)),
)

-- public reading has ended
pub all_ended : (who : List ℕ) (change : Change) (granting : BTreeMap (List ℕ) (List (List ℕ))) (old new : List (List ℕ)) →
    gift change ≡ GrantAll → KeepsPublic who RevokeAll old new → EndsGift who change granting granting old new
all_ended who change granting old new is drops = (
  λ owner other. sym (ap (λ (x : Change). cond (is_same who owner && gives_same x (Grant other)) false (is_granting granting owner other)) is ∙ and_false (is_same who owner) false (is_granting granting owner other)),
  λ owner. drops owner ∙ ap (λ (x : Change). cond (is_same who owner && gives_same x GrantAll) false (is_listed old owner)) (sym is),
)

-- what is taken back is kept where it has ended
pub gift_ended : (who : List ℕ) (change : Change) (old given new : BTreeMap (List ℕ) (List (List ℕ))) (public listed after : List (List ℕ)) → gives change ≡ false →
    SameGifts old given public listed → EndsGift who change given new listed after → KeepsGift who change old new public after
gift_ended who change old given new public listed after takes same ends = (
  λ owner reader. ends.0 owner reader
      ∙ ap (λ (b : Bool). cond (is_same who owner && gives_same (gift change) (Grant reader)) b (is_granting given owner reader)) (sym takes)
      ∙ ap (cond (is_same who owner && gives_same (gift change) (Grant reader)) (gives change)) (same.0 owner reader),
  λ owner. ends.1 owner
      ∙ ap (λ (b : Bool). cond (is_same who owner && gives_same (gift change) GrantAll) b (is_listed listed owner)) (sym takes)
      ∙ ap (cond (is_same who owner && gives_same (gift change) GrantAll) (gives change)) (same.1 owner),
)

-- of one owner and one reader: what wasn't so before, became so and is so no longer is as it was
undone : (concerned given old added dropped : Bool) → given ≡ true → (concerned ≡ true → old ≡ false) →
    added ≡ cond concerned given old → dropped ≡ cond concerned false added → dropped ≡ old
undone true given old added dropped gives first adds drops = drops ∙ sym (first refl)
undone false given old added dropped gives first adds drops = drops ∙ adds

-- a first gift that is taken back leaves all as it was
pub gift_undone : (who : List ℕ) (change : Change) (old given new : BTreeMap (List ℕ) (List (List ℕ))) (public listed after : List (List ℕ)) → gives change ≡ true →
    ((reader : List ℕ) → change ≡ Grant reader → is_granting old who reader ≡ false) → (change ≡ GrantAll → is_listed public who ≡ false) →
    KeepsGift who change old given public listed → EndsGift who change given new listed after → SameGifts old new public after
gift_undone who change old given new public listed after gives_it first first_for_all keeps ends = (
  λ owner reader. undone _ (gives change) (is_granting old owner reader) (is_granting given owner reader) (is_granting new owner reader) gives_it
      (no_reader change gives_it first owner reader) (keeps.0 owner reader) (ends.0 owner reader),
  λ owner. undone _ (gives change) (is_listed public owner) (is_listed listed owner) (is_listed after owner) gives_it
      (not_all change gives_it first_for_all owner) (keeps.1 owner) (ends.1 owner),
)
  where
    of_reader : (reader owner other : List ℕ) → is_granting old who reader ≡ false → (a : Bool) → is_same who owner ≡ a → (b : Bool) → is_same reader other ≡ b →
        (a && b) ≡ true → is_granting old owner other ≡ false
    of_reader reader owner other first true one true same both =
        sym (ap (λ (n : List ℕ). is_granting old n reader) (same_from_is_same who owner one) ∙ ap (is_granting old owner) (same_from_is_same reader other same)) ∙ first
    of_reader reader owner other first true one false apart both = cc
    of_reader reader owner other first false apart b same both = cc

    no_reader : (x : Change) → gives x ≡ true → ((reader : List ℕ) → x ≡ Grant reader → is_granting old who reader ≡ false) → (owner other : List ℕ) →
        (is_same who owner && gives_same (gift x) (Grant other)) ≡ true → is_granting old owner other ≡ false
    no_reader (Upload c) given first owner other concerned = absurd (never (is_same who owner) concerned)
    no_reader (Grant reader) given first owner other concerned = of_reader reader owner other (first reader refl) (is_same who owner) refl (is_same reader other) refl concerned
    no_reader GrantAll given first owner other concerned = absurd (never (is_same who owner) concerned)
    no_reader (Withdraw c) given first owner other concerned = cc
    no_reader (Revoke reader) given first owner other concerned = cc
    no_reader RevokeAll given first owner other concerned = cc

    of_all : (owner : List ℕ) → is_listed public who ≡ false → (a : Bool) → is_same who owner ≡ a → (a && true) ≡ true → is_listed public owner ≡ false
    of_all owner first true one both = sym (ap (is_listed public) (same_from_is_same who owner one)) ∙ first
    of_all owner first false apart both = cc

    not_all : (x : Change) → gives x ≡ true → (x ≡ GrantAll → is_listed public who ≡ false) → (owner : List ℕ) →
        (is_same who owner && gives_same (gift x) GrantAll) ≡ true → is_listed public owner ≡ false
    not_all (Upload c) given first owner concerned = absurd (never (is_same who owner) concerned)
    not_all (Grant reader) given first owner concerned = absurd (never (is_same who owner) concerned)
    not_all GrantAll given first owner concerned = of_all owner (first refl) (is_same who owner) refl concerned
    not_all (Withdraw c) given first owner concerned = cc
    not_all (Revoke reader) given first owner concerned = cc
    not_all RevokeAll given first owner concerned = cc

-- lists that are looked up alike
pub same_granting : (old new : BTreeMap (List ℕ) (List (List ℕ))) → ((reader : List ℕ) → get name_order new reader ≡ get name_order old reader) → SameGranting old new
same_granting old new same owner reader = ap (λ (l : Option (List (List ℕ))). has name_order (unwrap_or l []) owner) (same reader)

-- an accepted grant is of a reader that wasn't granted before
pub granted_first : (journal : List Entry) (who : List ℕ) (change : Change) (granting : BTreeMap (List ℕ) (List (List ℕ))) → early_refusal journal who change ≡ None →
    AreGranting journal granting → (reader : List ℕ) → change ≡ Grant reader → is_granting granting who reader ≡ false
granted_first journal who change granting accepted right reader is =
    right who reader ∙ by (is_same reader who) (granted journal who reader) (subst (λ (x : Change). early_refusal journal who x ≡ None) is accepted)
  where
    by : (a g : Bool) → cond a (Some GrantSelf) (cond g (Some AlreadyGranted) None) ≡ None → g ≡ false
    by true g refused = cc
    by false true refused = cc
    by false false accepted = refl

-- after an accepted change: journal is now seen as one, has room before, and has the entry after
pub granting_after : (journal before after : List Entry) (who : List ℕ) (change : Change) (old new : BTreeMap (List ℕ) (List (List ℕ))) →
    AreGranting journal old → KeepsGrant who change old new → before ≡ journal → after ≡ before ++ record { tenant = who; change = change } ∷ [] → AreGranting after new
granting_after journal before after who change old new right keeps same entered =
    subst (λ (j : List Entry). AreGranting j new) (sym (entered ∙ ap (λ (j : List Entry). j ++ record { tenant = who; change = change } ∷ []) same)) (λ owner reader.
    keeps owner reader ∙ ap (cond (is_same who owner && gives_same (gift change) (Grant reader)) (gives change)) (right owner reader) ∙ sym (stands_push journal (record { tenant = who; change = change }) owner (Grant reader)))

-- with the owner put among the public ones, it is as after public reading is granted
pub public_added : (who : List ℕ) (old new : List (List ℕ)) → new ≡ insert_key name_order old who → KeepsPublic who GrantAll old new
public_added who old new after owner =
    ap (λ (l : List (List ℕ)). has name_order l owner) after ∙ has-insert_key names_exact old who owner
    ∙ added_then (eq_by_cmp name_order owner who) (has name_order old owner)
    ∙ ap (λ (e : Bool). cond e true (has name_order old owner)) (tied_both_ways names_exact owner who ∙ is_same_tied who owner)
    ∙ sym (and_true (is_same who owner) true (has name_order old owner))

-- with the owner taken out of them, it is as after that is revoked
pub public_dropped : (who : List ℕ) (old new : List (List ℕ)) → new ≡ without name_order who old → KeepsPublic who RevokeAll old new
public_dropped who old new after owner =
    ap (λ (l : List (List ℕ)). has name_order l owner) after ∙ has-without names_exact old who owner
    ∙ dropped_then (eq_by_cmp name_order who owner) (has name_order old owner)
    ∙ ap (λ (e : Bool). cond e false (has name_order old owner)) (is_same_tied who owner)
    ∙ sym (and_true (is_same who owner) false (has name_order old owner))

-- public reading that is granted wasn't before
pub public_first : (journal : List Entry) (who : List ℕ) (change : Change) (public : List (List ℕ)) → early_refusal journal who change ≡ None → ArePublic journal public →
    change ≡ GrantAll → is_listed public who ≡ false
public_first journal who change public accepted right is =
    right who ∙ by (is_public journal who) (subst (λ (x : Change). early_refusal journal who x ≡ None) is accepted)
  where
    by : (b : Bool) → cond b (Some AlreadyGranted) None ≡ None → b ≡ false
    by true refused = cc
    by false accepted = refl

pub public_after : (journal before after : List Entry) (who : List ℕ) (change : Change) (old new : List (List ℕ)) →
    ArePublic journal old → KeepsPublic who change old new → before ≡ journal → after ≡ before ++ record { tenant = who; change = change } ∷ [] → ArePublic after new
public_after journal before after who change old new right keeps same entered =
    subst (λ (j : List Entry). ArePublic j new) (sym (entered ∙ ap (λ (j : List Entry). j ++ record { tenant = who; change = change } ∷ []) same)) (λ owner.
    keeps owner ∙ ap (cond (is_same who owner && gives_same (gift change) GrantAll) (gives change)) (right owner) ∙ sym (stands_push journal (record { tenant = who; change = change }) owner GrantAll))

-- what is marked where it is listed is marked where its vault is public
marked_as_public : (journal : List Entry) (public : List (List ℕ)) → ArePublic journal public → (seen : List Seen) → AllByRecursion (λ (s : Seen). s.to_all ≡ is_listed public s.name) seen →
    seen ≡ map (with_mark journal) (names_in seen)
marked_as_public journal public right [] marked = refl
marked_as_public journal public right (s ∷ seen) marked =
    let marking : Bool → Seen = λ to_all. record { name = s.name; to_all = to_all } in
    ap (λ (b : Bool). marking b ∷ seen) (marked.0 ∙ right s.name)
    ∙ ap (λ (l : List Seen). with_mark journal s.name ∷ l) (marked_as_public journal public right seen marked.1)

-- the reader and those that have granted it, merged with the public ones, are what it sees
pub seen_from_merged : (journal : List Entry) (who : List ℕ) (granting : BTreeMap (List ℕ) (List (List ℕ))) (public was names : List (List ℕ)) (seen : List Seen) →
    AreGranting journal granting → ArePublic journal public → was ≡ unwrap_or (get name_order granting who) [] → names ≡ insert_key name_order was who →
    AreMerged names public seen → seen ≡ marked_names journal who
unfolding marked_names
seen_from_merged journal who granting public was names seen right publicly before after merged =
    marked_as_public journal public publicly seen (recursion_from_All (λ (s : Seen). s.to_all ≡ is_listed public s.name) seen merged.marked)
    ∙ ap (map (with_mark journal)) (same_in_order names_exact (names_in seen) (names_in (marked_names journal who)) merged.in_order (sorted-names_seen journal who) (λ owner.
    merged.of_both owner
    ∙ ap (λ (l : List (List ℕ)). has name_order l owner || is_listed public owner) after
    ∙ ap (λ (b : Bool). b || is_listed public owner) (has-insert_key names_exact was who owner)
    ∙ ap (λ (l : List (List ℕ)). (eq_by_cmp name_order owner who || has name_order l owner) || is_listed public owner) before
    ∙ ap (λ (b : Bool). (eq_by_cmp name_order owner who || b) || is_listed public owner) (right owner who)
    ∙ ap (λ (b : Bool). (eq_by_cmp name_order owner who || granted journal owner who) || b) (publicly owner)
    ∙ ap (λ (b : Bool). (b || granted journal owner who) || is_public journal owner) (is_same_tied owner who)
    ∙ or_assoc (is_same owner who) (granted journal owner who) (is_public journal owner)
    ∙ sym (has-names_seen journal who owner)) ∙ names_seen journal who)
