-- The last entry that gives or takes back the same: after one entry more, and among a tenant's own entries.
use Rattle.std.proofs.Common.{ℕ, Bool, true, false, cond, List, [], ◌∷◌, ◌++◌, ◌≡◌, ◌∙◌, ◌||◌, ◌&&◌, sym, ap, refl, filter, find, reverse, Option, Some, None}
use Rattle.std.specs.List.{list_any, filter_map, cons_option}
use Rattle.std.specs.Option.{option_map_or}
use Rattle.std.proofs.lemmas.List.{reverse-append, append-nil}
use Rattle.std.proofs.lemmas.List.Elements.{filter-append}
use Rattle.std.proofs.lemmas.List.Sorted.{list_any-IsPermutation, IsPermutation-reverse}
use Rattle.std.proofs.lemmas.Bool.{or_left, or_right}
use Rattle.names.specs.Name.{is_same}
use Rattle.names.proofs.SameNames.{same_from_is_same}
use Rattle.vaults.specs.declared.changes.Change.{Change}
use Rattle.vaults.specs.declared.changes.Change.TheVariants.{Upload, Withdraw, Grant, Revoke, GrantAll, RevokeAll}
use Rattle.vaults.specs.declared.changes.Entry.{Entry}
use Rattle.vaults.specs.Journal.{gift, gives_same, entries_of, stands}
use Rattle.vaults.specs.Owed.{gives}
use Rattle.vaults.proofs.Elements.{same_from_tied}
use Rattle.vaults.proofs.Orders.{credentials_exact}

-- a change that gives what another gives is that one
pub same_change : (change other : Change) → gives_same change other ≡ true → change ≡ other
same_change (Upload c) (Upload d) same = ap Upload (same_from_tied credentials_exact c d same)
same_change (Upload c) _ same = cc
same_change (Withdraw c) _ same = cc
same_change (Grant reader) (Grant other) same = ap Grant (same_from_is_same reader other same)
same_change (Grant reader) _ same = cc
same_change (Revoke reader) _ same = cc
same_change GrantAll GrantAll same = refl
same_change GrantAll _ same = cc
same_change RevokeAll _ same = cc

-- what gives something is its own gift
pub gift_itself : (change : Change) → gives change ≡ true → gift change ≡ change
gift_itself (Upload c) given = refl
gift_itself (Withdraw c) given = cc
gift_itself (Grant reader) given = refl
gift_itself (Revoke reader) given = cc
gift_itself GrantAll given = refl
gift_itself RevokeAll given = cc

same_if_gives : (change other : Change) → gives_same (gift change) other ≡ true → gives_same change other ≡ gives change
same_if_gives (Upload c) other same = same
same_if_gives (Withdraw c) other same = refl
same_if_gives (Grant reader) other same = same
same_if_gives (Revoke reader) other same = refl
same_if_gives GrantAll other same = same
same_if_gives RevokeAll other same = refl

-- the entry is of the tenant, and gives or takes back what the change gives
abbrev pub is_about : List ℕ → Change → Entry → Bool
is_about tenant change e = is_same e.tenant tenant && gives_same (gift e.change) change

-- there is an entry, and it gives something
abbrev pub is_gift : Option Entry → Bool
is_gift found = option_map_or (λ (e : Entry). gives e.change) found false

find-filter : {X : Type 0} (p t : X → Bool) (xs : List X) → find t (filter p xs) ≡ find (λ x. p x && t x) xs
find-filter p t [] = refl
find-filter {X} p t (x ∷ xs) = by (p x) (find-filter p t xs)
  where
    by : (b : Bool) → find t (filter p xs) ≡ find (λ y. p y && t y) xs → find t (cond b (x ∷ filter p xs) (filter p xs)) ≡ cond (b && t x) (Some x) (find (λ y. p y && t y) xs)
    by true rest = ap (λ (o : Option X). cond (t x) (Some x) o) rest
    by false rest = rest

reverse-filter : {X : Type 0} (p : X → Bool) (xs : List X) → reverse (filter p xs) ≡ filter p (reverse xs)
reverse-filter p [] = refl
reverse-filter {X} p (x ∷ xs) = by (p x) refl (reverse-filter p xs) ∙ sym (ap (filter p) (reverse-append (x ∷ []) xs) ∙ filter-append p (reverse xs) (x ∷ []))
  where
    by : (b : Bool) → p x ≡ b → reverse (filter p xs) ≡ filter p (reverse xs) → reverse (cond b (x ∷ filter p xs) (filter p xs)) ≡ filter p (reverse xs) ++ cond b (x ∷ []) []
    by true e rest = reverse-append (x ∷ []) (filter p xs) ∙ ap (λ (l : List X). l ++ x ∷ []) rest
    by false e rest = rest ∙ sym (append-nil (filter p (reverse xs)))

filter-twice : {X : Type 0} (p : X → Bool) (xs : List X) → filter p (filter p xs) ≡ filter p xs
filter-twice p [] = refl
filter-twice {X} p (x ∷ xs) = by (p x) refl (filter-twice p xs)
  where
    by : (b : Bool) → p x ≡ b → filter p (filter p xs) ≡ filter p xs → filter p (cond b (x ∷ filter p xs) (filter p xs)) ≡ cond b (x ∷ filter p xs) (filter p xs)
    by true e rest = ap (λ (b : Bool). cond b (x ∷ filter p (filter p xs)) (filter p (filter p xs))) e ∙ ap (λ (l : List X). x ∷ l) rest
    by false e rest = rest

pub entries_own : (journal : List Entry) (tenant : List ℕ) → entries_of tenant (entries_of tenant journal) ≡ entries_of tenant journal
entries_own journal tenant = filter-twice (λ e. is_same e.tenant tenant) journal

pub entries_push : (journal : List Entry) (e : Entry) (tenant : List ℕ) →
    entries_of tenant (journal ++ e ∷ []) ≡ entries_of tenant journal ++ cond (is_same e.tenant tenant) (e ∷ []) []
entries_push journal e tenant = filter-append (λ x. is_same x.tenant tenant) journal (e ∷ [])

-- what stands is said by a tenant's own entries alone
pub stands_own : (journal : List Entry) (tenant : List ℕ) (change : Change) → stands (entries_of tenant journal) tenant change ≡ stands journal tenant change
stands_own journal tenant change =
    ap (λ (es : List Entry). option_map_or (λ (e : Entry). gives_same e.change change) (find (λ e. gives_same (gift e.change) change) (reverse es)) false) (entries_own journal tenant)

found_given : (change : Change) (es : List Entry) →
    option_map_or (λ (e : Entry). gives_same e.change change) (find (λ e. gives_same (gift e.change) change) es) false ≡ is_gift (find (λ e. gives_same (gift e.change) change) es)
found_given change [] = refl
found_given change (e ∷ es) = by (gives_same (gift e.change) change) refl (found_given change es)
  where
    by : (b : Bool) → gives_same (gift e.change) change ≡ b →
        option_map_or (λ (x : Entry). gives_same x.change change) (find (λ x. gives_same (gift x.change) change) es) false ≡ is_gift (find (λ x. gives_same (gift x.change) change) es) →
        option_map_or (λ (x : Entry). gives_same x.change change) (cond b (Some e) (find (λ x. gives_same (gift x.change) change) es)) false
        ≡ is_gift (cond b (Some e) (find (λ x. gives_same (gift x.change) change) es))
    by true same rest = same_if_gives e.change change same
    by false apart rest = rest

-- the last entry about it, among those of all tenants
pub stands_last : (journal : List Entry) (tenant : List ℕ) (change : Change) → stands journal tenant change ≡ is_gift (find (is_about tenant change) (reverse journal))
stands_last journal tenant change =
    found_given change (reverse (entries_of tenant journal))
    ∙ ap (λ (es : List Entry). is_gift (find (λ e. gives_same (gift e.change) change) es)) (reverse-filter (λ e. is_same e.tenant tenant) journal)
    ∙ ap is_gift (find-filter (λ e. is_same e.tenant tenant) (λ e. gives_same (gift e.change) change) (reverse journal))

-- after one entry more it is that entry, or the one before
pub stands_push : (journal : List Entry) (e : Entry) (tenant : List ℕ) (change : Change) →
    stands (journal ++ e ∷ []) tenant change ≡ cond (is_about tenant change e) (gives e.change) (stands journal tenant change)
stands_push journal e tenant change =
    stands_last (journal ++ e ∷ []) tenant change
    ∙ ap (λ (es : List Entry). is_gift (find (is_about tenant change) es)) (reverse-append journal (e ∷ []))
    ∙ by (is_about tenant change e)
    ∙ ap (cond (is_about tenant change e) (gives e.change)) (sym (stands_last journal tenant change))
  where
    by : (b : Bool) → is_gift (cond b (Some e) (find (is_about tenant change) (reverse journal))) ≡ cond b (gives e.change) (is_gift (find (is_about tenant change) (reverse journal)))
    by true = refl
    by false = refl

-- whether there is a part and it passes
abbrev pub asked : {Y : Type 0} → (Y → Bool) → Option Y → Bool
asked ask None = false
asked ask (Some y) = ask y

-- the parts of what a filter keeps
parts_any : {Y : Type 0} (part : Entry → Option Y) (ask : Y → Bool) (p : Entry → Bool) (es : List Entry) →
    list_any ask (filter_map part (filter p es)) ≡ list_any (λ e. p e && asked ask (part e)) es
parts_any part ask p [] = refl
parts_any {Y} part ask p (e ∷ es) = by (p e) (part e) refl (parts_any part ask p es)
  where
    by : (b : Bool) (o : Option Y) → part e ≡ o → list_any ask (filter_map part (filter p es)) ≡ list_any (λ x. p x && asked ask (part x)) es →
        list_any ask (filter_map part (cond b (e ∷ filter p es) (filter p es))) ≡ ((b && asked ask o) || list_any (λ x. p x && asked ask (part x)) es)
    by false o is rest = rest
    by true None is rest = ap (λ (o : Option Y). list_any ask (cons_option o (filter_map part (filter p es)))) is ∙ rest
    by true (Some y) is rest = ap (λ (o : Option Y). list_any ask (cons_option o (filter_map part (filter p es)))) is ∙ ap (λ (b : Bool). ask y || b) rest

pub list_any_agree : {X : Type 0} (p q : X → Bool) → ((x : X) → p x ≡ q x) → (xs : List X) → list_any p xs ≡ list_any q xs
list_any_agree p q agree [] = refl
list_any_agree p q agree (x ∷ xs) = ap (λ (b : Bool). b || list_any p xs) (agree x) ∙ ap (λ (b : Bool). q x || b) (list_any_agree p q agree xs)

-- where what is found gives something, an entry of the tenant has what every such entry has
found_any : (tenant : List ℕ) (change : Change) (named : Entry → Bool) → ((e : Entry) → gives_same e.change change ≡ true → named e ≡ true) →
    (es : List Entry) → is_gift (find (is_about tenant change) es) ≡ true → list_any (λ e. is_same e.tenant tenant && named e) es ≡ true
found_any tenant change named names [] found = cc
found_any tenant change named names (e ∷ es) found = by (is_same e.tenant tenant) (gives_same (gift e.change) change) refl (found_any tenant change named names es) found
  where
    by : (b t : Bool) → gives_same (gift e.change) change ≡ t → (is_gift (find (is_about tenant change) es) ≡ true → list_any (λ x. is_same x.tenant tenant && named x) es ≡ true) →
        is_gift (cond (b && t) (Some e) (find (is_about tenant change) es)) ≡ true → ((b && named e) || list_any (λ x. is_same x.tenant tenant && named x) es) ≡ true
    by true true same rest found = or_left _ _ (names e (same_if_gives e.change change same ∙ found))
    by true false apart rest found = or_right _ _ (rest found)
    by false t same rest found = rest found

-- what stands was entered: an entry of the tenant has what every entry has that gives it
pub stands_any : (change : Change) (named : Entry → Bool) → ((e : Entry) → gives_same e.change change ≡ true → named e ≡ true) →
    (journal : List Entry) (tenant : List ℕ) → stands journal tenant change ≡ true → list_any (λ e. is_same e.tenant tenant && named e) journal ≡ true
stands_any change named names journal tenant standing =
    list_any-IsPermutation (λ e. is_same e.tenant tenant && named e) journal (reverse journal) (IsPermutation-reverse journal)
    ∙ found_any tenant change named names (reverse journal) (sym (stands_last journal tenant change) ∙ standing)

-- and its part is among the parts of the tenant's entries
pub stands_named : {Y : Type 0} (change : Change) (part : Change → Option Y) (ask : Y → Bool) → ((other : Change) → gives_same other change ≡ true → asked ask (part other) ≡ true) →
    (journal : List Entry) (tenant : List ℕ) → stands journal tenant change ≡ true → list_any ask (filter_map (λ e. part e.change) (entries_of tenant journal)) ≡ true
stands_named change part ask names journal tenant standing =
    parts_any (λ e. part e.change) ask (λ e. is_same e.tenant tenant) journal
    ∙ stands_any change (λ e. asked ask (part e.change)) (λ e same. names e.change same) journal tenant standing

and-true : (b : Bool) → b ≡ (b && true)
and-true true = refl
and-true false = refl

-- and the tenant is among those that have entries
pub stands_entered : (change : Change) (journal : List Entry) (tenant : List ℕ) → stands journal tenant change ≡ true → list_any (λ e. is_same e.tenant tenant) journal ≡ true
stands_entered change journal tenant standing =
    list_any_agree (λ (e : Entry). is_same e.tenant tenant) (λ e. is_same e.tenant tenant && true) (λ e. and-true (is_same e.tenant tenant)) journal
    ∙ stands_any change (λ e. true) (λ e same. refl) journal tenant standing
