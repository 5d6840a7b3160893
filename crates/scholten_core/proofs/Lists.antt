-- Lists of letters, whose numbers rise
use Rattle.std.proofs.Common.{◌≡◌, ℕ, zero, suc, ◌+◌, ◌<◌, ◌≤◌, ◌==◌, Bool, true, false, cond, not, List, [], ◌∷◌, ◌++◌, Contains, Some, None, map, option_map, filter, length, remove, sum_by, refl, sym, ap, ◌∙◌, arith, lt-ltb, eq-eqb, ne_eqb, count_by}
use Rattle.std.specs.List.{find, slice_get, position, position_or_len}
use Rattle.std.specs.Map.{lookup}
use Rattle.std.proofs.lemmas.Option.{same_Some, none-some, slice_get_within, slice_get-get_or, get_or_from_slice_get}
use Rattle.std.proofs.lemmas.List.Folds.{find_at}
use Rattle.std.proofs.lemmas.List.Edits.{length-remove}
use Rattle.std.proofs.lemmas.List.Sums.{sum_by-cons, sum_by-remove}
use Rattle.std.proofs.lemmas.Map.Views.{exact_unsigned_eq}
use Rattle.scholten_core.specs.Sound.{IsNumbered}
use Rattle.scholten_core.specs.declared.parents.Parent.{Parent}
use Rattle.scholten_core.specs.declared.letters.Letter.{Letter}
use Rattle.scholten_core.specs.Computation.{same_parent}
use Rattle.scholten_core.specs.Step.{numbered}

-- the entry with f of its value, where its number is that one
abbrev pub changed : {X : Type 0} → ℕ → (X → X) → ℕ × X → ℕ × X
changed k f l = cond (l.0 == k) (l.0, f l.1) l

module _ {X : Type 0} where
  pub numbered_above : (low : ℕ) (ls : List (ℕ × X)) (high : ℕ) → IsNumbered low ls high → (less : ℕ) → less ≤ low → IsNumbered less ls high
  numbered_above low [] high rising less below = omega arith
  numbered_above low (l ∷ ls) high rising less below = (omega arith, rising.1)

  pub numbered_below : (low : ℕ) (ls : List (ℕ × X)) (high : ℕ) → IsNumbered low ls high → (more : ℕ) → high ≤ more → IsNumbered low ls more
  numbered_below low [] high rising more above = omega arith
  numbered_below low (l ∷ ls) high rising more above = (rising.0, numbered_below l.0 ls high rising.1 more above)

  pub numbered-append : (low : ℕ) (ls : List (ℕ × X)) (high : ℕ) (ms : List (ℕ × X)) (top : ℕ) → IsNumbered low ls high → IsNumbered high ms top → IsNumbered low (ls ++ ms) top
  numbered-append low [] high ms top rising more = numbered_above high ms top more low rising
  numbered-append low (l ∷ ls) high ms top rising more = (rising.0, numbered-append l.0 ls high ms top rising.1 more)

  pub numbered-filter : (p : ℕ × X → Bool) (low : ℕ) (ls : List (ℕ × X)) (high : ℕ) → IsNumbered low ls high → IsNumbered low (filter p ls) high
  numbered-filter p low [] high rising = rising
  numbered-filter p low (l ∷ ls) high rising =
      elim (p l) as (λ b. IsNumbered low (cond b (l ∷ filter p ls) (filter p ls)) high) [
        | true ↦ (rising.0, numbered-filter p l.0 ls high rising.1)
        | false ↦ numbered_above l.0 _ high (numbered-filter p l.0 ls high rising.1) low (omega (arith, rising.0))
      ]

  pub numbered-changed : (k : ℕ) (f : X → X) (low : ℕ) (ls : List (ℕ × X)) (high : ℕ) → IsNumbered low ls high → IsNumbered low (map (changed k f) ls) high
  numbered-changed k f low [] high rising = rising
  numbered-changed k f low (l ∷ ls) high rising =
      elim (l.0 == k) as (λ b. IsNumbered low (cond b (l.0, f l.1) l ∷ map (changed k f) ls) high) [
        | true ↦ (rising.0, numbered-changed k f l.0 ls high rising.1)
        | false ↦ (rising.0, numbered-changed k f l.0 ls high rising.1)
      ]

  -- past a number no entry has it
  pub filter_past : (k low : ℕ) (ls : List (ℕ × X)) (high : ℕ) → IsNumbered low ls high → k ≤ low → filter (λ l. not (l.0 == k)) ls ≡ ls
  filter_past k low [] high rising past = refl
  filter_past k low (l ∷ ls) high rising past =
      let other : (l.0 == k) ≡ false = ne_eqb l.0 k (omega (arith, rising.0)) in
      rw other (ap (λ x. l ∷ x) (filter_past k l.0 ls high rising.1 (omega (arith, rising.0))))

  pub changed_past : (k : ℕ) (f : X → X) (low : ℕ) (ls : List (ℕ × X)) (high : ℕ) → IsNumbered low ls high → k ≤ low → map (changed k f) ls ≡ ls
  changed_past k f low [] high rising past = refl
  changed_past k f low (l ∷ ls) high rising past =
      let other : (l.0 == k) ≡ false = ne_eqb l.0 k (omega (arith, rising.0)) in
      rw other (ap (λ x. l ∷ x) (changed_past k f l.0 ls high rising.1 (omega (arith, rising.0))))

  pub number_at : (low : ℕ) (ls : List (ℕ × X)) (high i k : ℕ) (x : X) → IsNumbered low ls high → slice_get ls i ≡ Some (k, x) → low < k
  number_at low [] high i k x rising at = absurd (none-some _ at)
  number_at low (l ∷ ls) high zero k x rising at = omega (arith, rising.0, ap (λ e. e.0) (same_Some _ _ at))
  number_at low (l ∷ ls) high (suc i) k x rising at = omega (arith, rising.0, number_at l.0 ls high i k x rising.1 at)

  -- to leave a number out is to remove at its place
  pub filter-remove : (low : ℕ) (ls : List (ℕ × X)) (high i k : ℕ) (x : X) → IsNumbered low ls high → slice_get ls i ≡ Some (k, x) → filter (λ l. not (l.0 == k)) ls ≡ remove ls i
  filter-remove low [] high i k x rising at = absurd (none-some _ at)
  filter-remove low (l ∷ ls) high zero k x rising at =
      let same = ap (λ e. e.0) (same_Some _ _ at) in
      let one : (l.0 == k) ≡ true = rw same (eq-eqb k k refl) in
      rw one (filter_past k l.0 ls high rising.1 (omega arith))
  filter-remove low (l ∷ ls) high (suc i) k x rising at =
      let above = number_at l.0 ls high i k x rising.1 at in
      let other : (l.0 == k) ≡ false = ne_eqb l.0 k (omega arith) in
      rw other (ap (λ r. l ∷ r) (filter-remove l.0 ls high i k x rising.1 at))

  -- the entry at a place is the one of its number
  pub lookup_at : (low : ℕ) (ls : List (ℕ × X)) (high i k : ℕ) (x : X) → IsNumbered low ls high → slice_get ls i ≡ Some (k, x) → lookup (λ n. n == k) ls ≡ Some x
  lookup_at low [] high i k x rising at = absurd (none-some _ at)
  lookup_at low (l ∷ ls) high zero k x rising at =
      let same = same_Some _ _ at in
      let one : (l.0 == k) ≡ true = rw (ap (λ e. e.0) same) (eq-eqb k k refl) in
      rw one (ap (λ e. Some e.1) same)
  lookup_at low (l ∷ ls) high (suc i) k x rising at =
      let above = number_at l.0 ls high i k x rising.1 at in
      let other : (l.0 == k) ≡ false = ne_eqb l.0 k (omega arith) in
      rw other (lookup_at l.0 ls high i k x rising.1 at)

  find_from_lookup : (k : ℕ) (ls : List (ℕ × X)) (x : X) → lookup (λ n. n == k) ls ≡ Some x → find (λ l. l.0 == k) ls ≡ Some (k, x)
  find_from_lookup k [] x found = absurd (none-some _ found)
  find_from_lookup k (l ∷ ls) x found =
      elim (l.0 == k) as (λ b. (l.0 == k) ≡ b → cond b (Some l.1) (lookup (λ n. n == k) ls) ≡ Some x → cond b (Some l) (find (λ e. e.0 == k) ls) ≡ Some (k, x)) [
        | true ↦ λ one here. ap Some (λ i. (exact_unsigned_eq l.0 k one i, same_Some _ _ here i))
        | false ↦ λ _ later. find_from_lookup k ls x later
      ] refl found

  -- the entry of a number stands at the first place that has it
  pub place_from_lookup : (k : ℕ) (ls : List (ℕ × X)) (x : X) → lookup (λ n. n == k) ls ≡ Some x → (i : ℕ) × (slice_get ls i ≡ Some (k, x)) × (position (λ l. l.0 == k) ls ≡ Some i)
  place_from_lookup k ls x found =
      let p = λ (l : ℕ × X). l.0 == k in
      let at = sym (find_at p ls) ∙ find_from_lookup k ls x found in
      let within : position_or_len p ls < length ls = slice_get_within ls (position_or_len p ls) (k, x) at in
      (position_or_len p ls, at, ap (λ b. cond b (Some (position_or_len p ls)) None) (lt-ltb (position_or_len p ls) (length ls) within))

  -- what a look-up finds is an entry
  pub Contains_from_lookup : (k : ℕ) (ls : List (ℕ × X)) (x : X) → lookup (λ n. n == k) ls ≡ Some x → Contains ls (k, x)
  Contains_from_lookup k ls x found =
      let place = place_from_lookup k ls x found in
      (place.0, slice_get_within ls place.0 (k, x) place.1, get_or_from_slice_get ls place.0 (k, x) (k, x) place.1)

  -- an entry is the one of its number
  pub lookup_from_Contains : (low : ℕ) (ls : List (ℕ × X)) (high k : ℕ) (x : X) → IsNumbered low ls high → Contains ls (k, x) → lookup (λ n. n == k) ls ≡ Some x
  lookup_from_Contains low ls high k x rising (i, within, is) = lookup_at low ls high i k x rising (slice_get-get_or ls i (k, x) within ∙ ap Some is)

-- the entry of a number, where entries of that number are changed
pub lookup-changed : {X : Type 0} (k : ℕ) (f : X → X) (ls : List (ℕ × X)) → lookup (λ n. n == k) (map (changed k f) ls) ≡ option_map f (lookup (λ n. n == k) ls)
lookup-changed k f [] = refl
lookup-changed k f (l ∷ ls) =
    elim (l.0 == k) as (λ b. (l.0 == k) ≡ b → lookup (λ n. n == k) (cond b (l.0, f l.1) l ∷ map (changed k f) ls) ≡ option_map f (cond b (Some l.1) (lookup (λ n. n == k) ls))) [
      | true ↦ λ one. ap (λ b. cond b (Some (f l.1)) (lookup (λ n. n == k) (map (changed k f) ls))) one
      | false ↦ λ other. ap (λ b. cond b (Some l.1) (lookup (λ n. n == k) (map (changed k f) ls))) other ∙ lookup-changed k f ls
    ] refl

-- what stands among those that pass a test passes it
pub filter_passes : {X : Type 0} (p : X → Bool) (xs : List X) (i : ℕ) (x : X) → slice_get (filter p xs) i ≡ Some x → p x ≡ true
filter_passes p [] i x at = absurd (none-some _ at)
filter_passes p (y ∷ ys) i x at =
    elim (p y) as (λ b. p y ≡ b → slice_get (cond b (y ∷ filter p ys) (filter p ys)) i ≡ Some x → p x ≡ true) [
      | true ↦ λ passes here. elim i as (λ j. slice_get (y ∷ filter p ys) j ≡ Some x → p x ≡ true) [
        | zero ↦ λ first. ap p (sym (same_Some _ _ first)) ∙ passes
        | suc j ↦ λ later. filter_passes p ys j x later
      ] here
      | false ↦ λ _ later. filter_passes p ys i x later
    ] refl at

-- what stands among those that pass a test stands among all
filter_place : {X : Type 0} (p : X → Bool) (xs : List X) (i : ℕ) (x : X) → slice_get (filter p xs) i ≡ Some x → (j : ℕ) × (slice_get xs j ≡ Some x)
filter_place p [] i x at = absurd (none-some _ at)
filter_place p (y ∷ ys) i x at =
    elim (p y) as (λ b. slice_get (cond b (y ∷ filter p ys) (filter p ys)) i ≡ Some x → (j : ℕ) × (slice_get (y ∷ ys) j ≡ Some x)) [
      | true ↦ λ here. elim i as (λ k. slice_get (y ∷ filter p ys) k ≡ Some x → (j : ℕ) × (slice_get (y ∷ ys) j ≡ Some x)) [
        | zero ↦ λ first. (0, first)
        | suc k ↦ λ later. let found = filter_place p ys k x later in (suc found.0, found.1)
      ] here
      | false ↦ λ later. let found = filter_place p ys i x later in (suc found.0, found.1)
    ] at

-- so its number finds it
pub lookup_from_filter : {X : Type 0} (p : ℕ × X → Bool) (low : ℕ) (ls : List (ℕ × X)) (high i k : ℕ) (x : X) → IsNumbered low ls high → slice_get (filter p ls) i ≡ Some (k, x) → lookup (λ n. n == k) ls ≡ Some x
lookup_from_filter p low ls high i k x rising at =
    let place = filter_place p ls i (k, x) at in
    lookup_at low ls high place.0 k x rising place.1

-- what a removal takes from a sum
pub sum_by-remove_at : {X : Type 0} (f : X → ℕ) (xs : List X) (i : ℕ) (x : X) → slice_get xs i ≡ Some x → sum_by f (remove xs i) + f x ≡ sum_by f xs
sum_by-remove_at f xs i x at = rw (← get_or_from_slice_get xs i x x at) (sum_by-remove f xs i x (slice_get_within xs i x at))

-- what leaving a number out takes from a sum, and from the length
module _ {X : Type 0} (low : ℕ) (ls : List (ℕ × X)) (high k : ℕ) (x : X) (rising : IsNumbered low ls high) (found : lookup (λ n. n == k) ls ≡ Some x) where
  pub sum_by-filter_number : (f : ℕ × X → ℕ) → sum_by f (filter (λ l. not (l.0 == k)) ls) + f (k, x) ≡ sum_by f ls
  sum_by-filter_number f =
      let place = place_from_lookup k ls x found in
      rw (filter-remove low ls high place.0 k x rising place.1) (sum_by-remove_at f ls place.0 (k, x) place.1)

  pub length-filter_number : length (filter (λ l. not (l.0 == k)) ls) + 1 ≡ length ls
  length-filter_number =
      let place = place_from_lookup k ls x found in
      rw (filter-remove low ls high place.0 k x rising place.1) (length-remove ls place.0 (slice_get_within ls place.0 _ place.1))

-- a sum over changed entries, where the terms stay
pub sum_by-map_same : {X : Type 0} (f : X → ℕ) (g : X → X) → ((x : X) → f (g x) ≡ f x) → (xs : List X) → sum_by f (map g xs) ≡ sum_by f xs
sum_by-map_same f g same [] = refl
sum_by-map_same f g same (x ∷ xs) = omega (arith, sum_by-cons f (g x) (map g xs), sum_by-cons f x xs, same x, sum_by-map_same f g same xs)

-- the letters that one sends together

module _ {P : Type 0} (from : Parent) where
  pub length-numbered : (k : ℕ) (outs : List (ℕ × P)) → length (numbered from k outs) ≡ length outs
  length-numbered k [] = refl
  length-numbered k (o ∷ outs) = ap suc (length-numbered (k + 1) outs)

  -- they rise from the last number on
  pub numbered_rise : (k : ℕ) (outs : List (ℕ × P)) → IsNumbered k (numbered from (k + 1) outs) (k + length outs)
  numbered_rise k [] = omega arith
  numbered_rise k (o ∷ outs) = (omega arith, numbered_below (k + 1) _ _ (numbered_rise (k + 1) outs) _ (omega arith))

  -- each is from that one
  pub count-numbered : (p : Parent) (k : ℕ) (outs : List (ℕ × P)) → count_by (λ l. same_parent p l.1.from) (numbered from k outs) ≡ cond (same_parent p from) (length outs) 0
  count-numbered p k [] = elim (same_parent p from) as (λ b. ◌≡◌ {A = ℕ} 0 (cond b 0 0)) [ true ↦ refl | false ↦ refl ]
  count-numbered p k (o ∷ outs) =
      let first = sum_by-cons (λ (l : ℕ × Letter P). cond {A = ℕ} (same_parent p l.1.from) 1 0) (k, record { from = from; to = o.0; held = false; load = o.1 }) (numbered from (k + 1) outs) in
      let rest = count-numbered p (k + 1) outs in
      let joined : cond {A = ℕ} (same_parent p from) 1 0 + cond (same_parent p from) (length outs) 0 ≡ cond (same_parent p from) (suc (length outs)) 0 = elim (same_parent p from) as (λ b. cond {A = ℕ} b 1 0 + cond b (length outs) 0 ≡ cond b (suc (length outs)) 0) [ true ↦ omega arith | false ↦ refl ] in
      omega (arith, first, rest, joined)
