-- Rows in order that are parted: a change of the part that it belongs to is the change of all.
use Rattle.std.proofs.Common.{ℕ, zero, suc, Bool, true, false, cond, not, List, [], ◌∷◌, ◌++◌, ◌≡◌, ◌∙◌, ◌||◌, ◌+◌, ◌<◌, ◌≤◌, sym, ap, refl, subst, length, get_or, arith, set, insert, remove, take, drop, Some, append_assoc, inl, inr}
use Rattle.std.specs.List.{AllByRecursion, slice_get}
use Rattle.std.specs.List.Sorted.{IsStrictlySortedBy}
use Rattle.std.specs.BTreeSet.{insert_key}
use Rattle.std.specs.declared.cmp.Ordering.{Ordering}
use Rattle.std.specs.declared.cmp.Ordering.TheVariants.{Less, Equal, Greater}
use Rattle.std.specs.Ordering.{eq_by_cmp, is_eq, is_lt, match_ordering}
use Rattle.std.proofs.lemmas.Bool.{or_parts, cases_lt}
use Rattle.std.proofs.lemmas.List.{append-nil, drop_all, set_split}
use Rattle.std.proofs.lemmas.List.Elements.{filter-append}
use Rattle.std.proofs.lemmas.List.Folds.{list_any-append}
use Rattle.std.proofs.lemmas.Option.{slice_get-get_or}
use Rattle.std.proofs.lemmas.Map.Keys.{sorted_head, sorted_tail}
use Rattle.credential_text.specs.declared.credentials.Credential.{Credential}
use Rattle.credential_text.specs.Credential.{credential_order}
use Rattle.vaults.specs.InOrder.{without}
use Rattle.vaults.specs.Blocks.{rows_in, begins_above, IsSpot}
use Rattle.vaults.proofs.Elements.{has, turned, same_from_tied}
use Rattle.vaults.proofs.Places.{without_absent, absent_behind}
use Rattle.vaults.proofs.Orders.{credentials_exact}

-- how many rows there are after one is put or taken
pub length-put : (rows : List Credential) (c : Credential) → has credential_order rows c ≡ false → length (insert_key credential_order rows c) ≡ length rows + 1
length-put [] c absent = omega arith
length-put (y ∷ rows) c absent = by (credential_order c y) refl (length-put rows c (or_parts (eq_by_cmp credential_order c y) (has credential_order rows c) absent).1)
  where
    by : (r : Ordering) → credential_order c y ≡ r → length (insert_key credential_order rows c) ≡ length rows + 1 →
        length (match_ordering r (c ∷ y ∷ rows) (y ∷ rows) (y ∷ insert_key credential_order rows c)) ≡ length (y ∷ rows) + 1
    by Less e rest = omega arith
    by Equal e rest =
        let here : eq_by_cmp credential_order c y ≡ true = ap is_eq e in
        let not_here : eq_by_cmp credential_order c y ≡ false = (or_parts (eq_by_cmp credential_order c y) (has credential_order rows c) absent).0 in cc
    by Greater e rest = omega (arith, rest)

pub length-taken : (rows : List Credential) (c : Credential) → IsStrictlySortedBy credential_order rows → has credential_order rows c ≡ true → length (without credential_order c rows) + 1 ≡ length rows
length-taken [] c sorted present = cc
length-taken (y ∷ rows) c sorted present = by (eq_by_cmp credential_order c y) refl present (length-taken rows c (sorted_tail credential_order y rows sorted))
  where
    by : (b : Bool) → eq_by_cmp credential_order c y ≡ b → (b || has credential_order rows c) ≡ true → (has credential_order rows c ≡ true → length (without credential_order c rows) + 1 ≡ length rows) →
        length (cond (not b) (y ∷ without credential_order c rows) (without credential_order c rows)) + 1 ≡ length (y ∷ rows)
    by true tied there rest =
        let same : c ≡ y = same_from_tied credentials_exact c y tied in
        let gone : without credential_order c rows ≡ rows = without_absent credentials_exact rows c (subst (λ (z : Credential). has credential_order rows z ≡ false) (sym same) (absent_behind credentials_exact y rows sorted)) in
        let equal : length (without credential_order c rows) ≡ length rows = ap length gone in omega (arith, equal)
    by false apart there rest = omega (arith, rest there)

-- each of the rows is below the credential, or above it
abbrev pub Below : Credential → List Credential → Type 0
Below x rows = AllByRecursion (λ y. credential_order y x ≡ Less) rows

abbrev pub Above : Credential → List Credential → Type 0
Above x rows = AllByRecursion (λ y. credential_order x y ≡ Less) rows

all_front : (P : Credential → Type 0) (xs ys : List Credential) → AllByRecursion P (xs ++ ys) → AllByRecursion P xs
all_front P [] ys all = tt
all_front P (x ∷ xs) ys all = (all.0, all_front P xs ys all.1)

all_back : (P : Credential → Type 0) (xs ys : List Credential) → AllByRecursion P (xs ++ ys) → AllByRecursion P ys
all_back P [] ys all = all
all_back P (x ∷ xs) ys all = all_back P xs ys all.1

-- what is below a row that isn't above another is below that one, and what is above a row that is above another too
lower : (x d : Credential) (r : Ordering) → credential_order x d ≡ r → is_lt r ≡ false → (rows : List Credential) → Below d rows → Below x rows
lower x d Less e apart rows below = cc
lower x d Equal e apart rows below = subst (λ (z : Credential). Below z rows) (sym (credentials_exact.exact x d e)) below
lower x d Greater e apart [] below = tt
lower x d Greater e apart (y ∷ rows) below = (credentials_exact.total.trans y d x below.0 (turned credentials_exact x d Greater e), lower x d Greater e apart rows below.1)

raise : (x d : Credential) → credential_order x d ≡ Less → (rows : List Credential) → Above d rows → Above x rows
raise x d e [] above = tt
raise x d e (y ∷ rows) above = (credentials_exact.total.trans x d y e above.0, raise x d e rows above.1)

less_from : (r : Ordering) → is_lt r ≡ true → r ≡ Less
less_from Less e = refl
less_from Equal e = cc
less_from Greater e = cc

-- parts of a list in order
pub sorted_front : (xs ys : List Credential) → IsStrictlySortedBy credential_order (xs ++ ys) → IsStrictlySortedBy credential_order xs
unfolding IsStrictlySortedBy
sorted_front [] ys sorted = tt
sorted_front (x ∷ xs) ys sorted = (all_front (λ y. credential_order x y ≡ Less) xs ys sorted.0, sorted_front xs ys sorted.1)

pub sorted_back : (xs ys : List Credential) → IsStrictlySortedBy credential_order (xs ++ ys) → IsStrictlySortedBy credential_order ys
sorted_back [] ys sorted = sorted
sorted_back (x ∷ xs) ys sorted = sorted_back xs ys (sorted_tail credential_order x (xs ++ ys) sorted)

below_first : (xs : List Credential) (y : Credential) (ys : List Credential) → IsStrictlySortedBy credential_order (xs ++ y ∷ ys) → Below y xs
below_first [] y ys sorted = tt
below_first (x ∷ xs) y ys sorted = (
  (all_back (λ z. credential_order x z ≡ Less) xs (y ∷ ys) (sorted_head credential_order x (xs ++ y ∷ ys) sorted)).0,
  below_first xs y ys (sorted_tail credential_order x (xs ++ y ∷ ys) sorted),
)

-- a change behind rows that are below, and before rows that are above
pub put_after : (xs ys : List Credential) (x : Credential) → Below x xs → insert_key credential_order (xs ++ ys) x ≡ xs ++ insert_key credential_order ys x
put_after [] ys x below = refl
put_after (y ∷ xs) ys x below =
    ap (λ (r : Ordering). match_ordering r (x ∷ y ∷ (xs ++ ys)) (y ∷ (xs ++ ys)) (y ∷ insert_key credential_order (xs ++ ys) x)) (turned credentials_exact y x Less below.0)
    ∙ ap (λ (l : List Credential). y ∷ l) (put_after xs ys x below.1)

pub put_before : (xs ys : List Credential) (x : Credential) → Above x ys → insert_key credential_order (xs ++ ys) x ≡ insert_key credential_order xs x ++ ys
put_before [] [] x above = refl
put_before [] (y ∷ ys) x above = ap (λ (r : Ordering). match_ordering r (x ∷ y ∷ ys) (y ∷ ys) (y ∷ insert_key credential_order ys x)) above.0
put_before (y ∷ xs) ys x above = by (credential_order x y) (put_before xs ys x above)
  where
    by : (r : Ordering) → insert_key credential_order (xs ++ ys) x ≡ insert_key credential_order xs x ++ ys →
        match_ordering r (x ∷ y ∷ (xs ++ ys)) (y ∷ (xs ++ ys)) (y ∷ insert_key credential_order (xs ++ ys) x)
        ≡ match_ordering r (x ∷ y ∷ xs) (y ∷ xs) (y ∷ insert_key credential_order xs x) ++ ys
    by Less rest = refl
    by Equal rest = refl
    by Greater rest = ap (λ (l : List Credential). y ∷ l) rest

has_below : (xs : List Credential) (x : Credential) → Below x xs → has credential_order xs x ≡ false
has_below [] x below = refl
has_below (y ∷ xs) x below = ap (λ (b : Bool). b || has credential_order xs x) (ap is_eq (turned credentials_exact y x Less below.0)) ∙ has_below xs x below.1

has_above : (xs : List Credential) (x : Credential) → Above x xs → has credential_order xs x ≡ false
has_above [] x above = refl
has_above (y ∷ xs) x above = ap (λ (b : Bool). b || has credential_order xs x) (ap is_eq above.0) ∙ has_above xs x above.1

or_false : (b : Bool) → (b || false) ≡ b
or_false true = refl
or_false false = refl

pub has_after : (xs ys : List Credential) (x : Credential) → Below x xs → has credential_order (xs ++ ys) x ≡ has credential_order ys x
has_after xs ys x below = list_any-append (eq_by_cmp credential_order x) xs ys ∙ ap (λ (b : Bool). b || has credential_order ys x) (has_below xs x below)

pub has_before : (xs ys : List Credential) (x : Credential) → Above x ys → has credential_order (xs ++ ys) x ≡ has credential_order xs x
has_before xs ys x above =
    list_any-append (eq_by_cmp credential_order x) xs ys ∙ ap (λ (b : Bool). has credential_order xs x || b) (has_above ys x above) ∙ or_false (has credential_order xs x)

pub without_after : (xs ys : List Credential) (x : Credential) → Below x xs → without credential_order x (xs ++ ys) ≡ xs ++ without credential_order x ys
without_after xs ys x below =
    filter-append (λ y. not (eq_by_cmp credential_order x y)) xs ys
    ∙ ap (λ (l : List Credential). l ++ without credential_order x ys) (without_absent credentials_exact xs x (has_below xs x below))

pub without_before : (xs ys : List Credential) (x : Credential) → Above x ys → without credential_order x (xs ++ ys) ≡ without credential_order x xs ++ ys
without_before xs ys x above =
    filter-append (λ y. not (eq_by_cmp credential_order x y)) xs ys
    ∙ ap (λ (l : List Credential). without credential_order x xs ++ l) (without_absent credentials_exact ys x (has_above ys x above))

-- the rows of blocks, by the block at a place
pub behind_append : (cs bs : List (List Credential)) → rows_in (cs ++ bs) ≡ rows_in bs ++ rows_in cs
behind_append [] bs = sym (append-nil (rows_in bs))
behind_append (c ∷ cs) bs = ap (λ (l : List Credential). l ++ c) (behind_append cs bs) ∙ append_assoc (rows_in bs) (rows_in cs) c

split_at : (bs : List (List Credential)) (n : ℕ) (b : List Credential) → slice_get bs n ≡ Some b → bs ≡ take n bs ++ b ∷ drop (suc n) bs
split_at [] n b at = cc
split_at (a ∷ bs) zero b at = cc
split_at (a ∷ bs) (suc n) b at = ap (λ (l : List (List Credential)). a ∷ l) (split_at bs n b at)

pub take_one_more : {X : Type 0} (bs : List X) (n : ℕ) (b : X) → slice_get bs n ≡ Some b → take (suc n) bs ≡ take n bs ++ b ∷ []
take_one_more [] n b at = cc
take_one_more (a ∷ bs) zero b at = cc
take_one_more {X} (a ∷ bs) (suc n) b at = ap (λ (l : List X). a ∷ l) (take_one_more bs n b at)

pub behind_at : (bs : List (List Credential)) (n : ℕ) (b : List Credential) → slice_get bs n ≡ Some b →
    rows_in bs ≡ rows_in (drop (suc n) bs) ++ (b ++ rows_in (take n bs))
behind_at bs n b at =
    ap rows_in (split_at bs n b at) ∙ behind_append (take n bs) (b ∷ drop (suc n) bs) ∙ append_assoc (rows_in (drop (suc n) bs)) b (rows_in (take n bs))

pub behind_set : (bs : List (List Credential)) (n : ℕ) (b : List Credential) → n < length bs →
    rows_in (set bs n b) ≡ rows_in (drop (suc n) bs) ++ (b ++ rows_in (take n bs))
behind_set bs n b within =
    ap rows_in (set_split bs n b within) ∙ behind_append (take n bs) (b ∷ drop (suc n) bs) ∙ append_assoc (rows_in (drop (suc n) bs)) b (rows_in (take n bs))

-- what stands behind the spot is above the credential, and what stands before it below
above_behind_spot : (bs : List (List Credential)) (n : ℕ) (x : Credential) → IsStrictlySortedBy credential_order (rows_in bs) → IsSpot x n bs → Above x (rows_in (take n bs))
above_behind_spot bs zero x sorted spot = tt
above_behind_spot bs (suc m) x sorted spot =
    let within : m < length bs = omega (arith, spot.within) in
    let at : slice_get bs m ≡ Some (get_or bs m []) = slice_get-get_or bs m [] within in
    by (get_or bs m []) at (spot.before m (get_or bs m []) (omega arith) at)
  where
    by : (b : List Credential) → slice_get bs m ≡ Some b → begins_above x b ≡ true → Above x (rows_in (take (suc m) bs))
    by [] at above = cc
    by (d ∷ b) at above =
        let less : credential_order x d ≡ Less = less_from (credential_order x d) above in
        let in_order : IsStrictlySortedBy credential_order (d ∷ (b ++ rows_in (take m bs))) =
        sorted_back (rows_in (drop (suc m) bs)) (d ∷ (b ++ rows_in (take m bs))) (subst (IsStrictlySortedBy credential_order) (behind_at bs m (d ∷ b) at) sorted) in
        subst (Above x) (sym (ap rows_in (take_one_more bs m (d ∷ b) at) ∙ behind_append (take m bs) ((d ∷ b) ∷ [])))
        (less, raise x d less (b ++ rows_in (take m bs)) (sorted_head credential_order d (b ++ rows_in (take m bs)) in_order))

below_before_spot : (bs : List (List Credential)) (n : ℕ) (x : Credential) (b : List Credential) → IsStrictlySortedBy credential_order (rows_in bs) → IsSpot x n bs →
    slice_get bs n ≡ Some b → Below x (rows_in (drop (suc n) bs))
below_before_spot bs n x b sorted spot at = elim (cases_lt (n + 1) (length bs)) [
  | inl more ↦ by b at (spot.there b more at)
  | inr last ↦ subst (λ (l : List (List Credential)). Below x (rows_in l)) (sym (drop_all (suc n) bs (omega (arith, last)))) tt
]
  where
    by : (b : List Credential) → slice_get bs n ≡ Some b → (0 < length b) × (begins_above x b ≡ false) → Below x (rows_in (drop (suc n) bs))
    by [] at there = absurd (omega (arith, there.0))
    by (d ∷ b) at there =
        lower x d (credential_order x d) refl there.1 (rows_in (drop (suc n) bs))
        (below_first (rows_in (drop (suc n) bs)) d (b ++ rows_in (take n bs)) (subst (IsStrictlySortedBy credential_order) (behind_at bs n (d ∷ b) at) sorted))

-- a change at the spot
pub put_at_spot : (bs : List (List Credential)) (n : ℕ) (x : Credential) (b : List Credential) → IsStrictlySortedBy credential_order (rows_in bs) → IsSpot x n bs → n < length bs → slice_get bs n ≡ Some b →
    rows_in (set bs n (insert_key credential_order b x)) ≡ insert_key credential_order (rows_in bs) x
put_at_spot bs n x b sorted spot within at =
    behind_set bs n (insert_key credential_order b x) within
    ∙ ap (λ (l : List Credential). rows_in (drop (suc n) bs) ++ l) (sym (put_before b (rows_in (take n bs)) x (above_behind_spot bs n x sorted spot)))
    ∙ sym (put_after (rows_in (drop (suc n) bs)) (b ++ rows_in (take n bs)) x (below_before_spot bs n x b sorted spot at))
    ∙ ap (λ (l : List Credential). insert_key credential_order l x) (sym (behind_at bs n b at))

taken_parts : (bs : List (List Credential)) (n : ℕ) (x : Credential) (b : List Credential) → IsStrictlySortedBy credential_order (rows_in bs) → IsSpot x n bs → slice_get bs n ≡ Some b →
    rows_in (drop (suc n) bs) ++ (without credential_order x b ++ rows_in (take n bs)) ≡ without credential_order x (rows_in bs)
taken_parts bs n x b sorted spot at =
    ap (λ (l : List Credential). rows_in (drop (suc n) bs) ++ l) (sym (without_before b (rows_in (take n bs)) x (above_behind_spot bs n x sorted spot)))
    ∙ sym (without_after (rows_in (drop (suc n) bs)) (b ++ rows_in (take n bs)) x (below_before_spot bs n x b sorted spot at))
    ∙ ap (without credential_order x) (sym (behind_at bs n b at))

pub take_at_spot : (bs : List (List Credential)) (n : ℕ) (x : Credential) (b : List Credential) → IsStrictlySortedBy credential_order (rows_in bs) → IsSpot x n bs → n < length bs → slice_get bs n ≡ Some b →
    rows_in (set bs n (without credential_order x b)) ≡ without credential_order x (rows_in bs)
take_at_spot bs n x b sorted spot within at = behind_set bs n (without credential_order x b) within ∙ taken_parts bs n x b sorted spot at

pub has_at_spot : (bs : List (List Credential)) (n : ℕ) (x : Credential) (b : List Credential) → IsStrictlySortedBy credential_order (rows_in bs) → IsSpot x n bs → slice_get bs n ≡ Some b →
    has credential_order (rows_in bs) x ≡ has credential_order b x
has_at_spot bs n x b sorted spot at =
    ap (λ (l : List Credential). has credential_order l x) (behind_at bs n b at)
    ∙ has_after (rows_in (drop (suc n) bs)) (b ++ rows_in (take n bs)) x (below_before_spot bs n x b sorted spot at)
    ∙ has_before b (rows_in (take n bs)) x (above_behind_spot bs n x sorted spot)

-- a block that goes with its only row
none_left : (b : List Credential) (x : Credential) → length b ≤ 1 → has credential_order b x ≡ true → without credential_order x b ≡ []
none_left [] x few there = refl
none_left (y ∷ z ∷ b) x few there = absurd (omega (arith, few))
none_left (y ∷ []) x few there = by (eq_by_cmp credential_order x y) there
  where
    by : (e : Bool) → (e || false) ≡ true → cond (not e) (y ∷ []) [] ≡ []
    by true there = refl
    by false there = cc

pub remove_at_spot : (bs : List (List Credential)) (n : ℕ) (x : Credential) (b : List Credential) → IsStrictlySortedBy credential_order (rows_in bs) → IsSpot x n bs → slice_get bs n ≡ Some b →
    has credential_order (rows_in bs) x ≡ true → length b ≤ 1 → rows_in (remove bs n) ≡ without credential_order x (rows_in bs)
remove_at_spot bs n x b sorted spot at there few =
    behind_append (take n bs) (drop (suc n) bs)
    ∙ ap (λ (l : List Credential). rows_in (drop (suc n) bs) ++ (l ++ rows_in (take n bs))) (sym (none_left b x few (sym (has_at_spot bs n x b sorted spot at) ∙ there)))
    ∙ taken_parts bs n x b sorted spot at

-- a block that is made two
pub behind_halved : (bs : List (List Credential)) (n : ℕ) (whole front back : List Credential) → n < length bs → slice_get bs n ≡ Some whole → whole ≡ front ++ back →
    rows_in (insert (set bs n front) n back) ≡ rows_in bs
behind_halved (b ∷ bs) zero whole front back within at parted =
    append_assoc (rows_in bs) front back ∙ ap (λ (l : List Credential). rows_in bs ++ l) (sym parted) ∙ ap (λ (l : List Credential). rows_in bs ++ l) same
  where
    same : whole ≡ b
    same = cc
behind_halved (b ∷ bs) (suc n) whole front back within at parted = ap (λ (l : List Credential). l ++ b) (behind_halved bs n whole front back (omega (arith, within)) at parted)
behind_halved [] n whole front back within at parted = absurd (omega (arith, within))

-- what is left of a block
pub length-put_some : (rows : List Credential) (x : Credential) → 0 < length (insert_key credential_order rows x)
length-put_some [] x = omega arith
length-put_some (y ∷ rows) x = by (credential_order x y)
  where
    by : (r : Ordering) → 0 < length (match_ordering r (x ∷ y ∷ rows) (y ∷ rows) (y ∷ insert_key credential_order rows x))
    by Less = omega arith
    by Equal = omega arith
    by Greater = omega arith

pub length-taken_least : (rows : List Credential) (x : Credential) → IsStrictlySortedBy credential_order rows → length rows ≤ length (without credential_order x rows) + 1
length-taken_least rows x sorted = by (has credential_order rows x) refl
  where
    by : (b : Bool) → has credential_order rows x ≡ b → length rows ≤ length (without credential_order x rows) + 1
    by true there = omega (arith, length-taken rows x sorted there)
    by false absent = omega (arith, ap length (without_absent credentials_exact rows x absent))

-- few rows in order
pub none_sorted : IsStrictlySortedBy credential_order []
unfolding IsStrictlySortedBy
none_sorted = tt

pub one_sorted : (x : Credential) → IsStrictlySortedBy credential_order (x ∷ [])
unfolding IsStrictlySortedBy
one_sorted x = (tt, tt)
