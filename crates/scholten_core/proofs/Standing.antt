-- The letters that stand in the table, whose numbers rise
use Rattle.std.proofs.Common.{◌≡◌, ℕ, zero, suc, ◌+◌, ◌<◌, ◌≤◌, ◌==◌, true, false, cond, not, List, [], ◌∷◌, ◌++◌, Option, Some, None, map, option_map, filter, length, set, get_or, nat_lt, lt-ltb, is_some, IsSomeAnd, IsTrue, subst, refl, sym, ap, ◌∙◌, arith, eq-eqb, ne_eqb, true≢false, ◌-◌, Bool, take, option_to_list, add-one, length-append}
use Rattle.std.specs.List.{slice_get}
use Rattle.std.specs.List.Sorted.{IsPartitionedBy, IsPartitionPoint}
use Rattle.std.specs.Option.{unwrap_or, is_none}
use Rattle.std.specs.Map.{lookup, keys_of}
use Rattle.std.proofs.lemmas.Option.{same_Some, none-some, slice_get_read, slice_get_within}
use Rattle.std.proofs.lemmas.Map.Entries.{length-keys_of}
use Rattle.std.proofs.lemmas.Map.Views.{exact_unsigned_eq}
use borrow.Author.Tests.{ltb-true, ltb-false}
use Rattle.scholten_core.specs.declared.letters.Letter.{Letter}
use Rattle.scholten_core.specs.Computation.{IsHeld, waiting}
use Rattle.scholten_core.specs.LetterTable.{set_value_at, IsPlaceOf, standing, WaitsAt, count, does_wait}
use Rattle.scholten_core.specs.Sound.{IsNumbered}
use Rattle.scholten_core.proofs.Lists.{changed, changed_past, filter_past, lookup_at, number_at, numbered_above}
use Rattle.std.proofs.lemmas.List.Sums.{sum_by-cons, sum_by-append, sum_by-take-le, count_by-le-length}

module _ {X : Type 0} where
  -- the length of what rises
  pub length-numbered_le : (low : ℕ) (ls : List (ℕ × X)) (high : ℕ) → IsNumbered low ls high → low + length ls ≤ high
  length-numbered_le low [] high rising = omega (arith, rising)
  length-numbered_le low (l ∷ ls) high rising = omega (arith, rising.0, length-numbered_le l.0 ls high rising.1)

  -- past a number nothing is found
  lookup_past : (k low : ℕ) (ls : List (ℕ × X)) (high : ℕ) → IsNumbered low ls high → k ≤ low → lookup (λ n. n == k) ls ≡ None
  lookup_past k low [] high rising past = refl
  lookup_past k low (l ∷ ls) high rising past =
      let other : (l.0 == k) ≡ false = ne_eqb l.0 k (omega (arith, rising.0)) in
      rw other (lookup_past k l.0 ls high rising.1 (omega (arith, rising.0)))

  -- a value that is written leaves the numbers as they are
  pub keys-set_value : (ls : List (ℕ × X)) (i : ℕ) (w : X) → keys_of (set_value_at ls i w) ≡ keys_of ls
  keys-set_value (l ∷ ls) (suc i) w = ap (λ ks. l.0 ∷ ks) (keys-set_value ls i w)
  keys-set_value _ _ w = refl

  pub length-set_value : (ls : List (ℕ × X)) (i : ℕ) (w : X) → length (set_value_at ls i w) ≡ length ls
  length-set_value [] i w = refl
  length-set_value (l ∷ ls) zero w = refl
  length-set_value (l ∷ ls) (suc i) w = ap suc (length-set_value ls i w)

  pub numbered-set_value : (low : ℕ) (ls : List (ℕ × X)) (high i : ℕ) (w : X) → IsNumbered low ls high → IsNumbered low (set_value_at ls i w) high
  numbered-set_value low [] high i w rising = rising
  numbered-set_value low (l ∷ ls) high zero w rising = (rising.0, rising.1)
  numbered-set_value low (l ∷ ls) high (suc i) w rising = (rising.0, numbered-set_value l.0 ls high i w rising.1)

  -- what stands before the end rises too
  pub numbered-front : (low : ℕ) (ls ms : List (ℕ × X)) (high : ℕ) → IsNumbered low (ls ++ ms) high → IsNumbered low ls high
  numbered-front low [] ms high rising = omega (arith, length-numbered_le low ms high rising)
  numbered-front low (l ∷ ls) ms high rising = (rising.0, numbered-front l.0 ls ms high rising.1)

  pub key_get : (ls : List (ℕ × X)) (i m : ℕ) (x : X) → slice_get ls i ≡ Some (m, x) → slice_get (keys_of ls) i ≡ Some m
  key_get [] i m x at = absurd (none-some _ at)
  key_get (l ∷ ls) zero m x at = ap (λ o. option_map (λ (e : ℕ × X). e.0) o) at
  key_get (l ∷ ls) (suc i) m x at = key_get ls i m x at

  -- the entry of a number
  pub entry_of_key : (ls : List (ℕ × X)) (i k : ℕ) → slice_get (keys_of ls) i ≡ Some k → (x : X) × (slice_get ls i ≡ Some (k, x))
  entry_of_key [] i k at = absurd (none-some _ at)
  entry_of_key (l ∷ ls) zero k at = (l.1, ap (λ n. Some (n, l.1)) (same_Some _ _ at))
  entry_of_key (l ∷ ls) (suc i) k at = entry_of_key ls i k at

  -- a value that is written beside its number
  pub set_value-is : (ls : List (ℕ × X)) (i k : ℕ) (x w : X) → slice_get ls i ≡ Some (k, x) → set ls i (k, w) ≡ set_value_at ls i w
  set_value-is [] i k x w at = refl
  set_value-is (l ∷ ls) zero k x w at = ap (λ n. (n, w) ∷ ls) (sym (ap (λ e. e.0) (same_Some _ _ at)))
  set_value-is (l ∷ ls) (suc i) k x w at = ap (λ es. l ∷ es) (set_value-is ls i k x w at)

  -- numbers rise with places
  low-get : (low : ℕ) (ls : List (ℕ × X)) (high j : ℕ) (d : ℕ × X) → IsNumbered low ls high → j < length ls → low < (get_or ls j d).0
  low-get low [] high j d rising within = absurd (omega (arith, within))
  low-get low (l ∷ ls) high zero d rising within = rising.0
  low-get low (l ∷ ls) high (suc j) d rising within = omega (arith, rising.0, low-get l.0 ls high j d rising.1 (omega (arith, within)))

  numbers-rise : (low : ℕ) (ls : List (ℕ × X)) (high i j : ℕ) (d : ℕ × X) → IsNumbered low ls high → i ≤ j → j < length ls → (get_or ls i d).0 ≤ (get_or ls j d).0
  numbers-rise low [] high i j d rising less within = absurd (omega (arith, within))
  numbers-rise low (l ∷ ls) high zero zero d rising less within = omega arith
  numbers-rise low (l ∷ ls) high zero (suc j) d rising less within = omega (arith, low-get l.0 ls high j d rising.1 (omega (arith, within)))
  numbers-rise low (l ∷ ls) high (suc i) zero d rising less within = absurd (omega (arith, less))
  numbers-rise low (l ∷ ls) high (suc i) (suc j) d rising less within = numbers-rise l.0 ls high i j d rising.1 (omega (arith, less)) (omega (arith, within))

  -- so those below a number come first
  pub parted_below : (low : ℕ) (ls : List (ℕ × X)) (high k : ℕ) → IsNumbered low ls high → IsPartitionedBy (λ (e : ℕ × X). nat_lt e.0 k) ls
  parted_below low ls high k rising i j d less within below =
      lt-ltb (get_or ls i d).0 k (omega (arith, numbers-rise low ls high i j d rising less within, ltb-true (get_or ls j d).0 k below))

  -- a number that doesn't stand where they end stands nowhere
  pub absent_between : (low : ℕ) (ls : List (ℕ × X)) (high k i : ℕ) → IsNumbered low ls high → IsPartitionPoint (λ (e : ℕ × X). nat_lt e.0 k ≡ true) (λ (e : ℕ × X). nat_lt e.0 k ≡ false) ls i → unwrap_or (option_map (λ (e : ℕ × X). e.0 == k) (slice_get ls i)) false ≡ false → lookup (λ n. n == k) ls ≡ None
  absent_between low [] high k i rising parts other = refl
  absent_between low (l ∷ ls) high k zero rising parts other =
      let above : k ≤ l.0 = ltb-false l.0 k (parts.1 zero l (omega arith) (omega arith)) in
      rw other (lookup_past k l.0 ls high rising.1 above)
  absent_between low (l ∷ ls) high k (suc i) rising parts other =
      let below : l.0 < k = ltb-true l.0 k (parts.0 zero l (omega arith) (omega arith)) in
      let here : (l.0 == k) ≡ false = ne_eqb l.0 k (omega (arith, below)) in
      rw here (absent_between l.0 ls high k i rising.1 (λ j d from within. parts.0 (suc j) d (omega arith) (omega (arith, within)), λ j d from within. parts.1 (suc j) d (omega (arith, from)) (omega (arith, within))) other)

  pub key_within : (k : ℕ) (ls : List (ℕ × X)) (i : ℕ) → slice_get (keys_of ls) i ≡ Some k → i < length ls
  key_within k ls i at = omega (arith, slice_get_within (keys_of ls) i k at, length-keys_of ls)

module _ {P : Type 0} where
  pub standing-append : (xs ys : List (ℕ × Option (Letter P))) → standing (xs ++ ys) ≡ standing xs ++ standing ys
  standing-append [] ys = refl
  standing-append ((k, None) ∷ xs) ys = standing-append xs ys
  standing-append ((k, Some l) ∷ xs) ys = ap (λ ls. (k, l) ∷ ls) (standing-append xs ys)

  numbered-standing : (low : ℕ) (es : List (ℕ × Option (Letter P))) (high : ℕ) → IsNumbered low es high → IsNumbered low (standing es) high
  numbered-standing low [] high rising = rising
  numbered-standing low ((k, None) ∷ es) high rising = numbered_above k (standing es) high (numbered-standing k es high rising.1) low (omega (arith, rising.0))
  numbered-standing low ((k, Some l) ∷ es) high rising = (rising.0, numbered-standing k es high rising.1)

  -- a hole is no letter
  abbrev pub letter_in : Option (Option (Letter P)) → Option (Letter P)
  letter_in None = None
  letter_in (Some o) = o

  pub lookup-standing : (k low : ℕ) (es : List (ℕ × Option (Letter P))) (high : ℕ) → IsNumbered low es high → lookup (λ n. n == k) (standing es) ≡ letter_in (lookup (λ n. n == k) es)
  lookup-standing k low [] high rising = refl
  lookup-standing k low ((m, None) ∷ es) high rising =
      elim (m == k) as (λ b. (m == k) ≡ b → lookup (λ n. n == k) (standing es) ≡ letter_in (cond b (Some None) (lookup (λ n. n == k) es))) [
        | true ↦ λ is. let same = exact_unsigned_eq m k is in
            lookup_past k m (standing es) high (numbered-standing m es high rising.1) (omega (arith, same))
        | false ↦ λ _. lookup-standing k m es high rising.1
      ] refl
  lookup-standing k low ((m, Some l) ∷ es) high rising =
      elim (m == k) as (λ b. cond b (Some l) (lookup (λ n. n == k) (standing es)) ≡ letter_in (cond b (Some (Some l)) (lookup (λ n. n == k) es))) [
        | true ↦ refl
        | false ↦ lookup-standing k m es high rising.1
      ]

  -- the letter of a number is what stands at the number's place
  pub letter_there : (sent k i : ℕ) (es : List (ℕ × Option (Letter P))) (e : ℕ × Option (Letter P)) → IsNumbered 0 es sent → slice_get (keys_of es) i ≡ Some k → e ≡ get_or es i e → e.1 ≡ lookup (λ n. n == k) (standing es)
  letter_there sent k i es e rising key read =
      let there = slice_get_read es (length es) i e refl (key_within k es i key) read in
      let same : e.0 ≡ k = same_Some _ _ (sym (key_get es i e.0 e.1 there) ∙ key) in
      sym (lookup-standing k 0 es sent rising ∙ ap letter_in (lookup_at 0 es sent i k e.1 rising (there ∙ ap (λ n. Some (n, e.1)) same)))

  -- no letter has a number that isn't found
  pub letter_absent : (sent k : ℕ) (es : List (ℕ × Option (Letter P))) → IsNumbered 0 es sent → lookup (λ n. n == k) es ≡ None → None ≡ lookup (λ n. n == k) (standing es)
  letter_absent sent k es rising none = sym (lookup-standing k 0 es sent rising ∙ ap letter_in none)

  -- a held letter is there, and so is what is found of its number
  pub held_found : {A : Type 0} (letters : List (ℕ × Letter P)) (k : ℕ) → IsHeld letters k → (found : Option A) → (found ≡ None → lookup (λ n. n == k) letters ≡ None) → is_some found ≡ true
  held_found letters k held (Some a) none = refl
  held_found letters k held None none = absurd (subst (λ (o : Option (Letter P)). IsSomeAnd o (λ l. IsTrue l.held)) (none refl) held)

  -- to write a letter at its place is to change the letter of its number
  pub standing-change : (f : Letter P → Letter P) (low : ℕ) (es : List (ℕ × Option (Letter P))) (high i k : ℕ) (l : Letter P) → IsNumbered low es high → slice_get es i ≡ Some (k, Some l) → standing (set_value_at es i (Some (f l))) ≡ map (changed k f) (standing es)
  standing-change f low [] high i k l rising at = absurd (none-some _ at)
  standing-change f low ((m, None) ∷ es) high zero k l rising at = absurd (none-some _ (ap (λ (e : ℕ × Option (Letter P)). e.1) (same_Some _ _ at)))
  standing-change f low ((m, Some x) ∷ es) high zero k l rising at =
      let same = same_Some _ _ at in
      let m_is : m ≡ k = ap (λ e. e.0) same in
      let x_is : x ≡ l = same_Some _ _ (ap (λ (e : ℕ × Option (Letter P)). e.1) same) in
      let here : (m == k) ≡ true = ap (λ n. n == k) m_is ∙ eq-eqb k k refl in
      let rest = changed_past k f m (standing es) high (numbered-standing m es high rising.1) (omega (arith, m_is)) in
      sym (ap (λ b. cond b (m, f x) (m, x) ∷ map (changed k f) (standing es)) here ∙ (λ j. (m, f (x_is j)) ∷ rest j))
  standing-change f low ((m, None) ∷ es) high (suc i) k l rising at = standing-change f m es high i k l rising.1 at
  standing-change f low ((m, Some x) ∷ es) high (suc i) k l rising at =
      let above = number_at m es high i k (Some l) rising.1 at in
      let other : (m == k) ≡ false = ne_eqb m k (omega arith) in
      sym (ap (λ b. cond b (m, f x) (m, x) ∷ map (changed k f) (standing es)) other ∙ ap (λ r. (m, x) ∷ r) (sym (standing-change f m es high i k l rising.1 at)))

  -- to leave a hole is to leave the number out
  pub standing-hole : (low : ℕ) (es : List (ℕ × Option (Letter P))) (high i k : ℕ) (l : Letter P) → IsNumbered low es high → slice_get es i ≡ Some (k, Some l) → standing (set_value_at es i None) ≡ filter (λ x. not (x.0 == k)) (standing es)
  standing-hole low [] high i k l rising at = absurd (none-some _ at)
  standing-hole low ((m, None) ∷ es) high zero k l rising at = absurd (none-some _ (ap (λ (e : ℕ × Option (Letter P)). e.1) (same_Some _ _ at)))
  standing-hole low ((m, Some x) ∷ es) high zero k l rising at =
      let m_is : m ≡ k = ap (λ e. e.0) (same_Some _ _ at) in
      let here : (m == k) ≡ true = ap (λ n. n == k) m_is ∙ eq-eqb k k refl in
      let rest = filter (λ (y : ℕ × Letter P). not (y.0 == k)) (standing es) in
      sym (ap (λ b. cond (not b) ((m, x) ∷ rest) rest) here ∙ filter_past k m (standing es) high (numbered-standing m es high rising.1) (omega (arith, m_is)))
  standing-hole low ((m, None) ∷ es) high (suc i) k l rising at = standing-hole m es high i k l rising.1 at
  standing-hole low ((m, Some x) ∷ es) high (suc i) k l rising at =
      let above = number_at m es high i k (Some l) rising.1 at in
      let other : (m == k) ≡ false = ne_eqb m k (omega arith) in
      let rest = filter (λ (y : ℕ × Letter P). not (y.0 == k)) (standing es) in
      sym (ap (λ b. cond (not b) ((m, x) ∷ rest) rest) other ∙ ap (λ r. (m, x) ∷ r) (sym (standing-hole m es high i k l rising.1 at)))

  -- what stands where a held letter's number is found
  pub record HoldsAt (es : List (ℕ × Option (Letter P))) (k i : ℕ) (v : Option (Letter P)) : Type 0 where
    pub letter : Letter P
    pub there : slice_get es i ≡ Some (k, Some letter)
    pub held : letter.held ≡ true
    pub value : v ≡ Some letter

  -- the number of the entry at a place stands there among the numbers
  pub number_there : (k : ℕ) (es : List (ℕ × Option (Letter P))) (i : ℕ) → unwrap_or (option_map (λ (e : ℕ × Option (Letter P)). e.0 == k) (slice_get es i)) false ≡ true → slice_get (keys_of es) i ≡ Some k
  number_there k [] i is = absurd (true≢false (sym is))
  number_there k (e ∷ es) zero is = ap Some (exact_unsigned_eq e.0 k is)
  number_there k (e ∷ es) (suc i) is = number_there k es i is

  -- the held letter of a number stands where the number is found
  module _ (sent : ℕ) (es : List (ℕ × Option (Letter P))) (rising : IsNumbered 0 es sent) (k i m : ℕ) (v : Option (Letter P)) (is_held : IsHeld (standing es) k) (found : slice_get (keys_of es) i ≡ Some k) (at : slice_get es i ≡ Some (m, v)) where
    slot_is : slice_get es i ≡ Some (k, v)
    slot_is = at ∙ ap (λ n. Some (n, v)) (same_Some _ _ (sym (key_get es i m v at) ∙ found))

    slot_held : IsSomeAnd v (λ l. IsTrue l.held)
    slot_held =
        let looked = lookup-standing k 0 es sent rising ∙ ap letter_in (lookup_at 0 es sent i k v rising slot_is) in
        subst (λ (o : Option (Letter P)). IsSomeAnd o (λ l. IsTrue l.held)) looked is_held

    pub holds_at : HoldsAt es k i v
    holds_at =
        elim v as (λ o. slice_get es i ≡ Some (k, o) → IsSomeAnd o (λ l. IsTrue l.held) → HoldsAt es k i o) [
          | None ↦ λ _ isnt. absurd isnt
          | Some l ↦ λ there held. record { letter = l; there = there; held = held; value = refl }
        ] slot_is slot_held

  -- so the number is found
  pub number_found : (sent : ℕ) (es : List (ℕ × Option (Letter P))) → IsNumbered 0 es sent → (k : ℕ) → IsHeld (standing es) k → (place : Option ℕ) → IsPlaceOf es k place → is_some place ≡ true
  number_found sent es rising k held (Some at) there = refl
  number_found sent es rising k held None none =
      let absent : lookup (λ n. n == k) (standing es) ≡ None = sym (letter_absent sent k es rising none) in
      absurd (subst (λ (o : Option (Letter P)). IsSomeAnd o (λ l. IsTrue l.held)) absent held)

-- how many entries of the table pass a test

-- one for what holds
abbrev pub one : Bool → ℕ
one b = cond b 1 0

-- one of two is no more than the other
pub either_way : (m n : ℕ) {C : Type 0} → (m ≤ n → C) → (n < m → C) → C
either_way m n {C} less more =
    elim (nat_lt n m) as (λ b. (nat_lt n m) ≡ b → C) [ true ↦ λ e. more (ltb-true n m e) | false ↦ λ e. less (ltb-false n m e) ] refl

module _ {P : Type 0} (test : Option (Letter P) → Bool) where
  abbrev passed : ℕ × Option (Letter P) → ℕ
  passed e = one (test e.1)

  pub counted : (e : ℕ × Option (Letter P)) (es : List (ℕ × Option (Letter P))) → count test (e ∷ es) ≡ one (test e.1) + count test es
  counted e es = sum_by-cons passed e es

  pub count-append : (xs ys : List (ℕ × Option (Letter P))) → count test (xs ++ ys) ≡ count test xs + count test ys
  count-append xs ys = sum_by-append passed xs ys

  pub count-le-length : (es : List (ℕ × Option (Letter P))) → count test es ≤ length es
  count-le-length es = count_by-le-length (λ (e : ℕ × Option (Letter P)). test e.1) es

  pub count-take : (n : ℕ) (es : List (ℕ × Option (Letter P))) → count test (take n es) ≤ count test es
  count-take n es = sum_by-take-le passed es n

  pub count-take-le : (m n : ℕ) (es : List (ℕ × Option (Letter P))) → m ≤ n → count test (take m es) ≤ count test (take n es)
  count-take-le (suc m) zero es less = absurd (omega arith)
  count-take-le (suc m) (suc n) (e ∷ es) less = omega (arith, count-take-le m n es (omega arith), counted e (take m es), counted e (take n es))
  count-take-le _ _ _ less = omega arith

  pub count-take-suc : (i : ℕ) (es : List (ℕ × Option (Letter P))) (e : ℕ × Option (Letter P)) → slice_get es i ≡ Some e → count test (take (suc i) es) ≡ count test (take i es) + one (test e.1)
  count-take-suc i [] e at = absurd (none-some _ at)
  count-take-suc zero (x ∷ xs) e at =
      let same : one (test x.1) ≡ one (test e.1) = ap (λ (y : ℕ × Option (Letter P)). one (test y.1)) (same_Some _ _ at) in
      omega (arith, same, counted x [])
  count-take-suc (suc i) (x ∷ xs) e at = omega (arith, count-take-suc i xs e at, counted x (take (suc i) xs), counted x (take i xs))

  -- what a write changes
  pub count-set : (es : List (ℕ × Option (Letter P))) (i k : ℕ) (old new : Option (Letter P)) → slice_get es i ≡ Some (k, old) → count test (set_value_at es i new) + one (test old) ≡ count test es + one (test new)
  count-set [] i k old new at = absurd (none-some _ at)
  count-set (e ∷ es) zero k old new at =
      let same : one (test e.1) ≡ one (test old) = ap (λ (y : ℕ × Option (Letter P)). one (test y.1)) (same_Some _ _ at) in
      omega (arith, same, counted (e.0, new) es, counted e es)
  count-set (e ∷ es) (suc i) k old new at = omega (arith, count-set es i k old new at, counted e (set_value_at es i new), counted e es)

  pub count-take-set : (n : ℕ) (es : List (ℕ × Option (Letter P))) (i k : ℕ) (old new : Option (Letter P)) → i < n → slice_get es i ≡ Some (k, old) → count test (take n (set_value_at es i new)) + one (test old) ≡ count test (take n es) + one (test new)
  count-take-set zero es i k old new below at = absurd (omega arith)
  count-take-set (suc n) [] i k old new below at = absurd (none-some _ at)
  count-take-set (suc n) (e ∷ es) zero k old new below at =
      let same : one (test e.1) ≡ one (test old) = ap (λ (y : ℕ × Option (Letter P)). one (test y.1)) (same_Some _ _ at) in
      omega (arith, same, counted (e.0, new) (take n es), counted e (take n es))
  count-take-set (suc n) (e ∷ es) (suc i) k old new below at =
      omega (arith, count-take-set n es i k old new (omega arith) at, counted e (take n (set_value_at es i new)), counted e (take n es))

  -- a write that changes no test changes no count
  pub count-take-same : (n : ℕ) (es : List (ℕ × Option (Letter P))) (i k : ℕ) (old new : Option (Letter P)) → slice_get es i ≡ Some (k, old) → one (test old) ≡ one (test new) → count test (take n (set_value_at es i new)) ≡ count test (take n es)
  count-take-same (suc n) (e ∷ es) zero k old new at same =
      let here : one (test e.1) ≡ one (test old) = ap (λ (y : ℕ × Option (Letter P)). one (test y.1)) (same_Some _ _ at) in
      omega (arith, here, same, counted (e.0, new) (take n es), counted e (take n es))
  count-take-same (suc n) (e ∷ es) (suc i) k old new at same =
      omega (arith, count-take-same n es i k old new at same, counted e (take n (set_value_at es i new)), counted e (take n es))
  count-take-same _ _ i k old new at same = refl

  -- an entry that passes no test adds nothing
  pub count-take-pop : (n : ℕ) (es : List (ℕ × Option (Letter P))) (e : ℕ × Option (Letter P)) → one (test e.1) ≡ 0 → count test (take n es) ≡ count test (take n (es ++ e ∷ []))
  count-take-pop zero es e nothing = refl
  count-take-pop (suc n) [] e nothing = omega (arith, nothing, count-take n [], counted e (take n []))
  count-take-pop (suc n) (x ∷ xs) e nothing = omega (arith, count-take-pop n xs e nothing, counted x (take n xs), counted x (take n (xs ++ e ∷ [])))

-- a write leaves the entries before it
pub take-set_value : {X : Type 0} (n i : ℕ) (es : List (ℕ × X)) (w : X) → n ≤ i → take n (set_value_at es i w) ≡ take n es
take-set_value (suc n) zero (e ∷ es) w below = absurd (omega arith)
take-set_value (suc n) (suc i) (e ∷ es) w below = ap (λ r. e ∷ r) (take-set_value n i es w (omega arith))
take-set_value _ i _ w below = refl

-- the element behind a list
slice_get_seam : {X : Type 0} (xs : List X) (x : X) → slice_get (xs ++ x ∷ []) (length xs) ≡ Some x
slice_get_seam [] x = refl
slice_get_seam (y ∷ ys) x = slice_get_seam ys x

module _ {P : Type 0} where
  -- so many letters wait
  pub length-waiting : (es : List (ℕ × Option (Letter P))) → length (waiting (standing es)) ≡ count does_wait es
  length-waiting [] = refl
  length-waiting ((k, None) ∷ es) = omega (arith, length-waiting es, counted does_wait (k, None) es)
  length-waiting ((k, Some l) ∷ es) =
      elim (not l.held) as (λ b. length (cond b ((k, l) ∷ waiting (standing es)) (waiting (standing es))) ≡ one b + count does_wait es) [
        | true ↦ omega (arith, length-waiting es)
        | false ↦ omega (arith, length-waiting es)
      ] ∙ sym (counted does_wait (k, Some l) es)

  -- a letter that waits is no hole
  pub waits_full : (o : Option (Letter P)) → does_wait o ≡ true → one (is_none o) ≡ 0
  waits_full None waits = absurd (true≢false (sym waits))
  waits_full (Some l) waits = refl

  -- to drop the holes leaves the letters, and no hole
  pub standing-none : (es : List (ℕ × Option (Letter P))) → count is_none es ≡ length es → standing es ≡ []
  standing-none [] all = refl
  standing-none ((k, None) ∷ es) all = standing-none es (omega (arith, all, counted is_none (k, None) es))
  standing-none ((k, Some l) ∷ es) all = absurd (omega (arith, all, counted is_none (k, Some l) es, count-le-length is_none es))

  pub standing-full : (es : List (ℕ × Option (Letter P))) → standing (filter (λ e. is_some e.1) es) ≡ standing es
  standing-full [] = refl
  standing-full ((k, None) ∷ es) = standing-full es
  standing-full ((k, Some l) ∷ es) = ap (λ ls. (k, l) ∷ ls) (standing-full es)

  pub waits-full : (es : List (ℕ × Option (Letter P))) → count does_wait (filter (λ e. is_some e.1) es) ≡ count does_wait es
  waits-full [] = refl
  waits-full ((k, None) ∷ es) = omega (arith, waits-full es, counted does_wait (k, None) es)
  waits-full ((k, Some l) ∷ es) = omega (arith, waits-full es, counted does_wait (k, Some l) (filter (λ (e : ℕ × Option (Letter P)). is_some e.1) es), counted does_wait (k, Some l) es)

  pub holes-full : (es : List (ℕ × Option (Letter P))) → count is_none (filter (λ e. is_some e.1) es) ≡ 0
  holes-full [] = refl
  holes-full ((k, None) ∷ es) = holes-full es
  holes-full ((k, Some l) ∷ es) = omega (arith, holes-full es, counted is_none (k, Some l) (filter (λ (e : ℕ × Option (Letter P)). is_some e.1) es))

  -- the letter at a place among those that wait
  pub waiting-at : (i : ℕ) (es : List (ℕ × Option (Letter P))) (k : ℕ) (l : Letter P) → slice_get es i ≡ Some (k, Some l) → not l.held ≡ true → slice_get (waiting (standing es)) (count does_wait (take i es)) ≡ Some (k, l)
  waiting-at i [] k l at waits = absurd (none-some _ at)
  waiting-at zero ((m, None) ∷ es) k l at waits = absurd (none-some _ (ap (λ (e : ℕ × Option (Letter P)). e.1) (same_Some _ _ at)))
  waiting-at zero ((m, Some x) ∷ es) k l at waits =
      let same = same_Some _ _ at in
      let x_is : x ≡ l = same_Some _ _ (ap (λ (e : ℕ × Option (Letter P)). e.1) same) in
      let rest = waiting (standing es) in
      ap (λ b. slice_get (cond b ((m, x) ∷ rest) rest) 0) (ap (λ (y : Letter P). not y.held) x_is ∙ waits)
      ∙ ap Some (λ j. ((same j).0, x_is j))
  waiting-at (suc i) ((m, None) ∷ es) k l at waits =
      let less : count does_wait (take (suc i) ((m, None) ∷ es)) ≡ count does_wait (take i es) = omega (arith, counted does_wait (m, None) (take i es)) in
      ap (slice_get (waiting (standing es))) less ∙ waiting-at i es k l at waits
  waiting-at (suc i) ((m, Some x) ∷ es) k l at waits =
      let rest = waiting (standing es) in
      let before = count does_wait (take i es) in
      ap (slice_get (waiting (standing ((m, Some x) ∷ es)))) (counted does_wait (m, Some x) (take i es))
      ∙ elim (not x.held) as (λ b. slice_get (cond b ((m, x) ∷ rest) rest) (one b + before) ≡ Some (k, l)) [
        | true ↦ (let more : one true + before ≡ suc before = omega arith in
            ap (slice_get ((m, x) ∷ rest)) more ∙ waiting-at i es k l at waits)
        | false ↦ (let same : one false + before ≡ before = omega arith in
            ap (slice_get rest) same ∙ waiting-at i es k l at waits)
      ]

  -- one further, where the entry there is known
  pub count-next : (es : List (ℕ × Option (Letter P))) (i : ℕ) (e : ℕ × Option (Letter P)) → slice_get es i ≡ Some e → count does_wait (take (i + 1) es) ≡ count does_wait (take i es) + one (does_wait e.1)
  count-next es i e at = rw add-one (count-take-suc does_wait i es e at)

  pub waits_here : (es : List (ℕ × Option (Letter P))) (i place : ℕ) (e : ℕ × Option (Letter P)) → slice_get es i ≡ Some e → does_wait e.1 ≡ true → count does_wait (take i es) ≡ place → WaitsAt es place i
  waits_here es i place e at waits is = record {
    waits = subst (λ (o : Option (ℕ × Option (Letter P))). IsSomeAnd o (λ e. IsTrue (does_wait e.1))) (sym at) waits;
    place_is = is;
  }

  -- the same from the place behind it
  pub count-back : (es : List (ℕ × Option (Letter P))) (i j : ℕ) (e : ℕ × Option (Letter P)) → i ≡ j + 1 → slice_get es j ≡ Some e → count does_wait (take i es) ≡ count does_wait (take j es) + one (does_wait e.1)
  count-back es i j e is at = ap (λ n. count does_wait (take n es)) is ∙ count-next es j e at

  -- the last entry, where it is a hole
  pub popped_hole : (es front : List (ℕ × Option (Letter P))) (r : Option (ℕ × Option (Letter P))) → es ≡ front ++ option_to_list r → (0 < length es → is_some r ≡ true) → unwrap_or (option_map (λ (e : ℕ × Option (Letter P)). is_none e.1) (slice_get es (length es - 1))) false ≡ true → (k : ℕ) × (es ≡ front ++ (k, None) ∷ [])
  popped_hole [] front None is some hole = absurd (true≢false (sym hole))
  popped_hole (x ∷ xs) front None is some hole = absurd (true≢false (sym (some (omega arith))))
  popped_hole es front (Some (k, None)) is some hole = (k, is)
  popped_hole es front (Some (k, Some l)) is some hole =
      let size : length es - 1 ≡ length front = omega (arith, ap length is, length-append front ((k, Some l) ∷ [])) in
      let read : slice_get es (length es - 1) ≡ Some (k, Some l) = (λ i. slice_get (is i) (size i)) ∙ slice_get_seam front (k, Some l) in
      absurd (true≢false (sym hole ∙ ap (λ (o : Option (ℕ × Option (Letter P))). unwrap_or (option_map (λ (e : ℕ × Option (Letter P)). is_none e.1) o) false) read))

  -- the letter that waits at an index
  pub record WaitingLetter (es : List (ℕ × Option (Letter P))) (at k : ℕ) (v : Option (Letter P)) : Type 0 where
    pub letter : Letter P
    pub there : slice_get es at ≡ Some (k, Some letter)
    pub waits : not letter.held ≡ true
    pub value : v ≡ Some letter

  pub letter_waiting : (es : List (ℕ × Option (Letter P))) (place at k : ℕ) (v : Option (Letter P)) → WaitsAt es place at → slice_get es at ≡ Some (k, v) → WaitingLetter es at k v
  letter_waiting es place at k v waits there =
      elim v as (λ o. slice_get es at ≡ Some (k, o) → does_wait o ≡ true → WaitingLetter es at k o) [
        | None ↦ λ _ none. absurd (true≢false (sym none))
        | Some l ↦ λ here passes. record { letter = l; there = here; waits = passes; value = refl }
      ] there (subst (λ (o : Option (ℕ × Option (Letter P))). IsSomeAnd o (λ e. IsTrue (does_wait e.1))) there waits.waits)

  pub waits_within : (es : List (ℕ × Option (Letter P))) (place at : ℕ) → WaitsAt es place at → at < length es
  waits_within es place at waits =
      elim (slice_get es at) as (λ o. slice_get es at ≡ o → IsSomeAnd o (λ e. IsTrue (does_wait e.1)) → at < length es) [
        | None ↦ λ _ isnt. absurd isnt
        | Some e ↦ λ there _. slice_get_within es at e there
      ] refl waits.waits
