-- Two lists of names in order, merged name by name.
use Rattle.std.proofs.Common.{ℕ, zero, suc, Bool, true, false, List, [], ◌∷◌, ◌++◌, ◌≡◌, ◌≢◌, ◌∙◌, ◌||◌, sym, ap, refl, subst, take, drop, map, append_assoc, All, Some, ◌+◌, ◌<◌, length, get_or}
use Rattle.std.proofs.lemmas.List.{map_more}
use Rattle.std.specs.List.{AllByRecursion, slice_get}
use Rattle.std.specs.List.Sorted.{IsStrictlySortedBy}
use Rattle.std.specs.Ordering.{eq_by_cmp, is_eq, match_ordering}
use Rattle.std.specs.declared.cmp.Ordering.{Ordering}
use Rattle.std.specs.declared.cmp.Ordering.TheVariants.{Less, Equal, Greater}
use Rattle.std.proofs.Math.Bool.{or_assoc}
use Rattle.std.proofs.lemmas.List.Elements.{All-from_recursion, recursion_from_All}
use Rattle.names.specs.Name.{name_order}
use Rattle.names.proofs.SameNames.{is_same_tied, is_same_itself}
use Rattle.vaults.specs.declared.marks.Seen.{Seen}
use Rattle.vaults.specs.Journal.{one_if, names_in}
use Rattle.vaults.specs.Book.{is_listed}
use Rattle.vaults.specs.Merge.{to_everybody, is_first, AreMerged}
use Rattle.vaults.proofs.Elements.{or_swap, turned}
use Rattle.vaults.proofs.Orders.{names_exact}

-- the first name of the first list goes where it stands among those of the second; the rest of the first list is merged so
abbrev merged_one : List ℕ → (List (List ℕ) → List Seen) → List (List ℕ) → List Seen
merged_one x rest [] = record { name = x; to_all = false } ∷ rest []
merged_one x rest (y ∷ ys) = match_ordering (name_order x y)
    (record { name = x; to_all = false } ∷ rest (y ∷ ys))
    (to_everybody x ∷ rest ys)
    (to_everybody y ∷ merged_one x rest ys)

abbrev pub merged : List (List ℕ) → List (List ℕ) → List Seen
merged [] ys = map to_everybody ys
merged (x ∷ xs) ys = merged_one x (merged xs) ys

abbrev Above : List ℕ → List (List ℕ) → Type 0
Above x xs = AllByRecursion (λ n. name_order x n ≡ Less) xs

abbrev Marked : List (List ℕ) → List Seen → Type 0
Marked public seen = AllByRecursion (λ (s : Seen). s.to_all ≡ is_listed public s.name) seen

above_all : (x y : List ℕ) (xs : List (List ℕ)) → name_order x y ≡ Less → Above y xs → Above x xs
above_all x y [] less above = tt
above_all x y (n ∷ xs) less above = (names_exact.total.trans x y n less above.0, above_all x y xs less above.1)

-- what is before the names of both lists is before those of the merged one
above_one : (z x : List ℕ) (rest : List (List ℕ) → List Seen) → name_order z x ≡ Less → ((zs : List (List ℕ)) → Above z zs → Above z (names_in (rest zs))) →
    (ys : List (List ℕ)) → Above z ys → Above z (names_in (merged_one x rest ys))
above_one z x rest less keeps [] above = (less, keeps [] tt)
above_one z x rest less keeps (y ∷ ys) above = by (name_order x y) (above_one z x rest less keeps ys above.1)
  where
    by : (r : Ordering) → Above z (names_in (merged_one x rest ys)) →
        Above z (names_in (match_ordering r (record { name = x; to_all = false } ∷ rest (y ∷ ys)) (to_everybody x ∷ rest ys) (to_everybody y ∷ merged_one x rest ys)))
    by Less behind = (less, keeps (y ∷ ys) above)
    by Equal behind = (less, keeps ys above.1)
    by Greater behind = (above.0, behind)

above_merged : (z : List ℕ) (xs ys : List (List ℕ)) → Above z xs → Above z ys → Above z (names_in (merged xs ys))
above_merged z [] [] before above = tt
above_merged z [] (y ∷ ys) before above = (above.0, above_merged z [] ys before above.1)
above_merged z (x ∷ xs) ys before above = above_one z x (merged xs) before.0 (λ zs all. above_merged z xs zs before.1 all) ys above

-- it has the names of both
or_shared : (a b c : Bool) → (a || (b || c)) ≡ ((a || b) || (a || c))
or_shared true b c = refl
or_shared false b c = refl

both_one : (n x : List ℕ) (xs : List (List ℕ)) (rest : List (List ℕ) → List Seen) →
    ((zs : List (List ℕ)) → is_listed (names_in (rest zs)) n ≡ (is_listed xs n || is_listed zs n)) →
    (ys : List (List ℕ)) → is_listed (names_in (merged_one x rest ys)) n ≡ (is_listed (x ∷ xs) n || is_listed ys n)
both_one n x xs rest has [] = ap (λ (b : Bool). eq_by_cmp name_order n x || b) (has []) ∙ sym (or_assoc (eq_by_cmp name_order n x) (is_listed xs n) false)
both_one n x xs rest has (y ∷ ys) = by (name_order x y) refl (both_one n x xs rest has ys)
  where
    by : (r : Ordering) → name_order x y ≡ r → is_listed (names_in (merged_one x rest ys)) n ≡ (is_listed (x ∷ xs) n || is_listed ys n) →
        is_listed (names_in (match_ordering r (record { name = x; to_all = false } ∷ rest (y ∷ ys)) (to_everybody x ∷ rest ys) (to_everybody y ∷ merged_one x rest ys))) n
        ≡ (is_listed (x ∷ xs) n || is_listed (y ∷ ys) n)
    by Less e behind =
        ap (λ (b : Bool). eq_by_cmp name_order n x || b) (has (y ∷ ys)) ∙ sym (or_assoc (eq_by_cmp name_order n x) (is_listed xs n) (is_listed (y ∷ ys) n))
    by Equal e behind =
        ap (λ (b : Bool). eq_by_cmp name_order n x || b) (has ys)
        ∙ or_shared (eq_by_cmp name_order n x) (is_listed xs n) (is_listed ys n)
        ∙ ap (λ (z : List ℕ). is_listed (x ∷ xs) n || (eq_by_cmp name_order n z || is_listed ys n)) (names_exact.exact x y e)
    by Greater e behind =
        ap (λ (b : Bool). eq_by_cmp name_order n y || b) behind ∙ or_swap (eq_by_cmp name_order n y) (is_listed (x ∷ xs) n) (is_listed ys n)

both_merged : (n : List ℕ) (xs ys : List (List ℕ)) → is_listed (names_in (merged xs ys)) n ≡ (is_listed xs n || is_listed ys n)
both_merged n [] [] = refl
both_merged n [] (y ∷ ys) = ap (λ (b : Bool). eq_by_cmp name_order n y || b) (both_merged n [] ys)
both_merged n (x ∷ xs) ys = both_one n x xs (merged xs) (both_merged n xs) ys

-- in order
sorted_one : (x : List ℕ) (xs : List (List ℕ)) → Above x xs → ((zs : List (List ℕ)) → IsStrictlySortedBy name_order zs → IsStrictlySortedBy name_order (names_in (merged xs zs))) →
    (ys : List (List ℕ)) → IsStrictlySortedBy name_order ys → IsStrictlySortedBy name_order (names_in (merged_one x (merged xs) ys))
unfolding IsStrictlySortedBy
sorted_one x xs above rest [] sorted = (above_merged x xs [] above tt, rest [] tt)
sorted_one x xs above rest (y ∷ ys) sorted = by (name_order x y) refl (sorted_one x xs above rest ys sorted.1)
  where
    by : (r : Ordering) → name_order x y ≡ r → IsStrictlySortedBy name_order (names_in (merged_one x (merged xs) ys)) →
        IsStrictlySortedBy name_order (names_in (match_ordering r
        (record { name = x; to_all = false } ∷ merged xs (y ∷ ys)) (to_everybody x ∷ merged xs ys) (to_everybody y ∷ merged_one x (merged xs) ys)))
    by Less e behind = (above_merged x xs (y ∷ ys) above (e, above_all x y ys e sorted.0), rest (y ∷ ys) sorted)
    by Equal e behind = (above_merged x xs ys above (subst (λ (z : List ℕ). Above z ys) (sym (names_exact.exact x y e)) sorted.0), rest ys sorted.1)
    by Greater e behind =
        let below : name_order y x ≡ Less = turned names_exact x y Greater e in
        (above_one y x (merged xs) below (λ zs all. above_merged y xs zs (above_all y x xs below above) all) ys sorted.0, behind)

sorted_merged : (xs ys : List (List ℕ)) → IsStrictlySortedBy name_order xs → IsStrictlySortedBy name_order ys → IsStrictlySortedBy name_order (names_in (merged xs ys))
unfolding IsStrictlySortedBy
sorted_merged [] [] in_xs in_ys = tt
sorted_merged [] (y ∷ ys) in_xs in_ys = (above_merged y [] ys tt in_ys.0, sorted_merged [] ys in_xs in_ys.1)
sorted_merged (x ∷ xs) ys in_xs in_ys = sorted_one x xs in_xs.0 (λ zs sorted. sorted_merged xs zs in_xs.1 sorted) ys in_ys

-- and marked are those of the second list: a name before all that are seen changes no mark
marked_more : (y : List ℕ) (ys : List (List ℕ)) (seen : List Seen) → Above y (names_in seen) → Marked ys seen → Marked (y ∷ ys) seen
marked_more y ys [] above marked = tt
marked_more y ys (s ∷ seen) above marked = (
  marked.0 ∙ sym (ap (λ (b : Bool). b || is_listed ys s.name) (ap is_eq (turned names_exact y s.name Less above.0))),
  marked_more y ys seen above.1 marked.1,
)

itself : (y : List ℕ) → eq_by_cmp name_order y y ≡ true
itself y = is_same_tied y y ∙ is_same_itself y y refl

unlisted : (x : List ℕ) (ys : List (List ℕ)) → Above x ys → is_listed ys x ≡ false
unlisted x [] above = refl
unlisted x (y ∷ ys) above = ap (λ (b : Bool). b || is_listed ys x) (ap is_eq above.0) ∙ unlisted x ys above.1

marked_one : (x : List ℕ) (xs : List (List ℕ)) → Above x xs → ((zs : List (List ℕ)) → IsStrictlySortedBy name_order zs → Marked zs (merged xs zs)) →
    (ys : List (List ℕ)) → IsStrictlySortedBy name_order ys → Marked ys (merged_one x (merged xs) ys)
unfolding IsStrictlySortedBy
marked_one x xs above rest [] sorted = (refl, rest [] tt)
marked_one x xs above rest (y ∷ ys) sorted = by (name_order x y) refl (marked_one x xs above rest ys sorted.1)
  where
    by : (r : Ordering) → name_order x y ≡ r → Marked ys (merged_one x (merged xs) ys) →
        Marked (y ∷ ys) (match_ordering r
        (record { name = x; to_all = false } ∷ merged xs (y ∷ ys)) (to_everybody x ∷ merged xs ys) (to_everybody y ∷ merged_one x (merged xs) ys))
    by Less e behind = (sym (unlisted x (y ∷ ys) (e, above_all x y ys e sorted.0)), rest (y ∷ ys) sorted)
    by Equal e behind = (
      sym (ap (λ (b : Bool). b || is_listed ys x) (ap is_eq e)),
      marked_more y ys (merged xs ys) (above_merged y xs ys (subst (λ (z : List ℕ). Above z xs) (names_exact.exact x y e) above) sorted.0) (rest ys sorted.1),
    )
    by Greater e behind =
        let below : name_order y x ≡ Less = turned names_exact x y Greater e in (
          sym (ap (λ (b : Bool). b || is_listed ys y) (itself y)),
          marked_more y ys (merged_one x (merged xs) ys) (above_one y x (merged xs) below (λ zs all. above_merged y xs zs (above_all y x xs below above) all) ys sorted.0) behind,
        )

marked_merged : (xs ys : List (List ℕ)) → IsStrictlySortedBy name_order xs → IsStrictlySortedBy name_order ys → Marked ys (merged xs ys)
unfolding IsStrictlySortedBy
marked_merged [] [] in_xs in_ys = tt
marked_merged [] (y ∷ ys) in_xs in_ys = (
  sym (ap (λ (b : Bool). b || is_listed ys y) (itself y)),
  marked_more y ys (merged [] ys) (above_merged y [] ys tt in_ys.0) (marked_merged [] ys in_xs in_ys.1),
)
marked_merged (x ∷ xs) ys in_xs in_ys = marked_one x xs in_xs.0 (λ zs sorted. marked_merged xs zs in_xs.1 sorted) ys in_ys

pub are_merged : (names public : List (List ℕ)) (seen : List Seen) → IsStrictlySortedBy name_order names → IsStrictlySortedBy name_order public → seen ≡ merged names public → AreMerged names public seen
are_merged names public seen in_names in_public is = subst (AreMerged names public) (sym is) (record {
  in_order = sorted_merged names public in_names in_public;
  of_both = λ name. both_merged name names public;
  marked = All-from_recursion (λ (s : Seen). s.to_all ≡ is_listed public s.name) (merged names public) (marked_merged names public in_names in_public);
})

-- the public names before the next one are merged first
before_step : (x : List ℕ) (rest : List (List ℕ) → List Seen) (ys : List (List ℕ)) (n : ℕ) → AllByRecursion (λ y. name_order y x ≡ Less) (take n ys) →
    merged_one x rest ys ≡ map to_everybody (take n ys) ++ merged_one x rest (drop n ys)
before_step x rest ys zero below = refl
before_step x rest [] (suc n) below = refl
before_step x rest (y ∷ ys) (suc n) below =
    ap (λ (r : Ordering). match_ordering r (record { name = x; to_all = false } ∷ rest (y ∷ ys)) (to_everybody x ∷ rest ys) (to_everybody y ∷ merged_one x rest ys)) (turned names_exact y x Less below.0)
    ∙ ap (λ (l : List Seen). to_everybody y ∷ l) (before_step x rest ys n below.1)

-- then that one, marked where it stands there
at_step : (x : List ℕ) (rest : List (List ℕ) → List Seen) (ys : List (List ℕ)) (to_all : Bool) → ((y : List ℕ) → slice_get ys 0 ≡ Some y → name_order y x ≢ Less) → to_all ≡ is_first x ys →
    merged_one x rest ys ≡ record { name = x; to_all = to_all } ∷ rest (drop (one_if to_all) ys)
at_step x rest [] true stop first = cc
at_step x rest [] false stop first = refl
at_step x rest (y ∷ ys) to_all stop first = by (name_order x y) refl to_all (first ∙ sym (is_same_tied y x))
  where
    by : (r : Ordering) → name_order x y ≡ r → (b : Bool) → b ≡ eq_by_cmp name_order y x →
        match_ordering r (record { name = x; to_all = false } ∷ rest (y ∷ ys)) (to_everybody x ∷ rest ys) (to_everybody y ∷ merged_one x rest ys)
        ≡ record { name = x; to_all = b } ∷ rest (drop (one_if b) (y ∷ ys))
    by Less e false same = refl
    by Less e true same = let apart : eq_by_cmp name_order y x ≡ false = ap is_eq (turned names_exact x y Less e) in cc
    by Equal e true same = refl
    by Equal e false same = let tied : eq_by_cmp name_order y x ≡ true = ap is_eq (turned names_exact x y Equal e) in cc
    by Greater e b same = absurd (stop y refl (turned names_exact x y Greater e))

get_dropped : (xs : List (List ℕ)) (n : ℕ) → slice_get (drop n xs) 0 ≡ slice_get xs n
get_dropped xs zero = refl
get_dropped [] (suc n) = refl
get_dropped (x ∷ xs) (suc n) = get_dropped xs n

-- one name more: before is behind the public names before it, and after behind it
pub one_more : (all names rest before after : List (List ℕ)) (whole seen pushed done : List Seen) (k n : ℕ) (x : List ℕ) (to_all : Bool) →
    seen ++ merged names rest ≡ whole → names ≡ x ∷ all → pushed ≡ seen ++ map to_everybody (take n rest) → All (λ other. name_order other x ≡ Less) (take n rest) →
    ((other : List ℕ) → slice_get rest n ≡ Some other → name_order other x ≢ Less) → before ≡ drop n rest → to_all ≡ is_first x before → after ≡ drop (one_if to_all) before →
    done ≡ pushed ++ record { name = x; to_all = to_all } ∷ [] → done ++ merged all after ≡ whole
one_more all names rest before after whole seen pushed done k n x to_all so_far is were below stop left first behind last =
    ap (λ (l : List Seen). l ++ merged all after) last
    ∙ append_assoc pushed (record { name = x; to_all = to_all } ∷ []) (merged all after)
    ∙ ap (λ (l : List (List ℕ)). pushed ++ record { name = x; to_all = to_all } ∷ merged all l) behind
    ∙ ap (λ (l : List Seen). pushed ++ l) (sym (at_step x (merged all) before to_all (λ y at. stop y (sym (get_dropped rest n) ∙ subst (λ (l : List (List ℕ)). slice_get l 0 ≡ Some y) left at)) first))
    ∙ ap (λ (l : List (List ℕ)). pushed ++ merged_one x (merged all) l) left
    ∙ ap (λ (l : List Seen). l ++ merged_one x (merged all) (drop n rest)) were
    ∙ append_assoc seen (map to_everybody (take n rest)) (merged_one x (merged all) (drop n rest))
    ∙ ap (λ (l : List Seen). seen ++ l) (sym (before_step x (merged all) rest n (recursion_from_All (λ other. name_order other x ≡ Less) (take n rest) below)))
    ∙ ap (λ (l : List (List ℕ)). seen ++ merged l rest) (sym is)
    ∙ so_far

-- the next of the public names is appended
pub pushed_more : (old seen new : List Seen) (public : List (List ℕ)) (i : ℕ) (x : List ℕ) → seen ≡ old ++ map to_everybody (take i public) → i < length public → x ≡ get_or public i x →
    new ≡ seen ++ to_everybody x ∷ [] → new ≡ old ++ map to_everybody (take (i + 1) public)
pushed_more old seen new public i x so_far within is after =
    after ∙ ap (λ (l : List Seen). l ++ to_everybody x ∷ []) so_far ∙ append_assoc old (map to_everybody (take i public)) (to_everybody x ∷ [])
    ∙ ap (λ (y : List ℕ). old ++ (map to_everybody (take i public) ++ to_everybody y ∷ [])) is
    ∙ ap (λ (l : List Seen). old ++ l) (sym (map_more to_everybody public i x within))
