-- Cells that hold names, compared eight at a time.
use Rattle.std.proofs.Common.{ℕ, zero, suc, List, [], ◌∷◌, ◌≡◌, ◌+◌, ◌*◌, ◌-◌, ◌<◌, ◌≤◌, ◌∙◌}
use Rattle.std.proofs.Common.{sym, ap, subst, refl, arith, length, take, drop, get_or}
use Rattle.std.specs.declared.cmp.Ordering.{Ordering}
use Rattle.std.specs.declared.cmp.Ordering.TheVariants.{Less, Equal, Greater}
use Rattle.std.specs.Ordering.{nat_cmp, ordering_then, MatchOrdering}
use Rattle.std.specs.Slice.Scan.{big_endian}
use Rattle.std.specs.Cmp.{nat_cmp_is, ranks}
use Rattle.std.proofs.lemmas.Cmp.{tied_itself, nat_list_cmp_total}
use Rattle.std.proofs.lemmas.List.{ext_get_or, get_or-drop, length-drop}
use Rattle.names.specs.Name.{name_order}
use Rattle.names.specs.Cells.{EndsInZeros}

-- bytes alone
abbrev pub AreBytes : List ℕ → Type 0
AreBytes xs = (k : ℕ) → get_or xs k 0 < 256

-- the same up to there
abbrev pub AreAlike : List ℕ → List ℕ → ℕ → Type 0
AreAlike xs ys n = (k : ℕ) → k < n → get_or xs k 0 ≡ get_or ys k 0

-- what begins higher spells the greater number
rises : (n a b : ℕ) (xs ys : List ℕ) → n ≤ length xs → n ≤ length ys → AreBytes xs → a < b
    → big_endian a (take n xs) < big_endian b (take n ys)
rises zero a b xs ys in_xs in_ys bytes higher = higher
rises (suc n) a b [] ys in_xs in_ys bytes higher = absurd (omega arith)
rises (suc n) a b (x ∷ xs) [] in_xs in_ys bytes higher = absurd (omega arith)
rises (suc n) a b (x ∷ xs) (y ∷ ys) in_xs in_ys bytes higher =
    let small : x < 256 = bytes 0 in
    rises n (a * 256 + x) (b * 256 + y) xs ys (omega arith) (omega arith) (λ k. bytes (suc k)) (omega arith)

-- the numbers decide, and where they are tied what stands behind
pub word_first : (n a : ℕ) (xs ys : List ℕ) → n ≤ length xs → n ≤ length ys → AreBytes xs → AreBytes ys
    → name_order xs ys
    ≡ ordering_then (nat_cmp (big_endian a (take n xs)) (big_endian a (take n ys))) (name_order (drop n xs) (drop n ys))
word_first zero a xs ys in_xs in_ys xs_bytes ys_bytes = ap (λ r. ordering_then r (name_order xs ys)) (nat_cmp_is a a Equal refl)
word_first (suc n) a [] ys in_xs in_ys xs_bytes ys_bytes = absurd (omega arith)
word_first (suc n) a (x ∷ xs) [] in_xs in_ys xs_bytes ys_bytes = absurd (omega arith)
word_first (suc n) a (x ∷ xs) (y ∷ ys) in_xs in_ys xs_bytes ys_bytes =
    by (word_first n (a * 256 + x) xs ys (omega arith) (omega arith) (λ k. xs_bytes (suc k)) (λ k. ys_bytes (suc k)))
    (nat_cmp x y) refl (ranks x y)
  where
    behind : Ordering
    behind = name_order (drop n xs) (drop n ys)

    by : name_order xs ys
        ≡ ordering_then (nat_cmp (big_endian (a * 256 + x) (take n xs)) (big_endian (a * 256 + x) (take n ys))) behind
        → (r : Ordering) → nat_cmp x y ≡ r → MatchOrdering r (x < y) (x ≡ y) (y < x)
        → ordering_then (nat_cmp x y) (name_order xs ys)
        ≡ ordering_then (nat_cmp (big_endian (a * 256 + x) (take n xs)) (big_endian (a * 256 + y) (take n ys))) behind
    by others Less e below =
        let under : x < y = below in
        let more = rises n (a * 256 + x) (a * 256 + y) xs ys (omega arith) (omega arith) (λ k. xs_bytes (suc k)) (omega arith) in
        ap (λ r. ordering_then r (name_order xs ys)) e ∙ ap (λ r. ordering_then r behind) (nat_cmp_is _ _ Less more)
    by others Equal e level =
        let same : x ≡ y = level in
        ap (λ r. ordering_then r (name_order xs ys)) e
        ∙ others
        ∙ ap (λ z. ordering_then (nat_cmp (big_endian (a * 256 + x) (take n xs)) (big_endian (a * 256 + z) (take n ys))) behind)
        same
    by others Greater e above =
        let over : y < x = above in
        let less = rises n (a * 256 + y) (a * 256 + x) ys xs (omega arith) (omega arith) (λ k. ys_bytes (suc k)) (omega arith) in
        ap (λ r. ordering_then r (name_order xs ys)) e ∙ ap (λ r. ordering_then r behind) (nat_cmp_is _ _ Greater less)

-- the same number has the same bytes
pub word_tells : (n a : ℕ) (xs ys : List ℕ) → n ≤ length xs → n ≤ length ys → AreBytes xs → AreBytes ys
    → big_endian a (take n xs) ≡ big_endian a (take n ys) → AreAlike xs ys n
word_tells zero a xs ys in_xs in_ys xs_bytes ys_bytes same = λ k before. absurd (omega arith)
word_tells (suc n) a [] ys in_xs in_ys xs_bytes ys_bytes same = absurd (omega arith)
word_tells (suc n) a (x ∷ xs) [] in_xs in_ys xs_bytes ys_bytes same = absurd (omega arith)
word_tells (suc n) a (x ∷ xs) (y ∷ ys) in_xs in_ys xs_bytes ys_bytes same =
    by (word_tells n (a * 256 + x) xs ys (omega arith) (omega arith) (λ k. xs_bytes (suc k)) (λ k. ys_bytes (suc k)))
    (nat_cmp x y) (ranks x y)
  where
    by : (big_endian (a * 256 + x) (take n xs) ≡ big_endian (a * 256 + x) (take n ys) → AreAlike xs ys n)
        → (r : Ordering) → MatchOrdering r (x < y) (x ≡ y) (y < x) → AreAlike (x ∷ xs) (y ∷ ys) (suc n)
    by others Less below k before =
        let under : x < y = below in
        let more = rises n (a * 256 + x) (a * 256 + y) xs ys (omega arith) (omega arith) (λ k. xs_bytes (suc k)) (omega arith) in
        absurd (omega (arith, same))
    by others Greater above k before =
        let over : y < x = above in
        let less = rises n (a * 256 + y) (a * 256 + x) ys xs (omega arith) (omega arith) (λ k. ys_bytes (suc k)) (omega arith) in
        absurd (omega (arith, same))
    by others Equal level zero before = level
    by others Equal level (suc k) before =
        let first : x ≡ y = level in
        others (subst (λ z. big_endian (a * 256 + x) (take n xs) ≡ big_endian (a * 256 + z) (take n ys)) (sym first) same) k
        (omega arith)

-- what is alike up to there decides nothing
pub past_alike : (n : ℕ) (xs ys : List ℕ) → n ≤ length xs → n ≤ length ys → AreAlike xs ys n
    → name_order xs ys ≡ name_order (drop n xs) (drop n ys)
past_alike zero xs ys in_xs in_ys alike = refl
past_alike (suc n) [] ys in_xs in_ys alike = absurd (omega arith)
past_alike (suc n) (x ∷ xs) [] in_xs in_ys alike = absurd (omega arith)
past_alike (suc n) (x ∷ xs) (y ∷ ys) in_xs in_ys alike =
    ap (λ r. ordering_then r (name_order xs ys)) (sym (nat_cmp_is x y Equal (alike 0 (omega arith))))
    ∙ past_alike n xs ys (omega arith) (omega arith) (λ k before. alike (suc k) (omega arith))

-- what decides isn't overruled
pub decided : (x y : ℕ) (behind : Ordering) → (x ≡ y → ⊥) → ordering_then (nat_cmp x y) behind ≡ nat_cmp x y
decided x y behind apart = by (nat_cmp x y) (ranks x y)
  where
    by : (r : Ordering) → MatchOrdering r (x < y) (x ≡ y) (y < x) → ordering_then r behind ≡ r
    by Less below = refl
    by Equal level = absurd (apart level)
    by Greater above = refl

module _ (xs ys : List ℕ) (in_xs : length xs ≡ 64) (in_ys : length ys ≡ 64) (xs_bytes : AreBytes xs)
    (ys_bytes : AreBytes ys) where
  dropped : (i : ℕ) (zs : List ℕ) → AreBytes zs → AreBytes (drop i zs)
  dropped i zs bytes k = subst (λ b. b < 256) (sym (get_or-drop i zs k 0)) (bytes (i + k))

  eight_left : (i : ℕ) (zs : List ℕ) → length zs ≡ 64 → i + 8 ≤ 64 → 8 ≤ length (drop i zs)
  eight_left i zs all within = omega (arith, all, length-drop i zs)

  -- words that differ behind what is alike decide
  pub word_decides : (i x y : ℕ) → i + 8 ≤ 64 → AreAlike xs ys i
      → x ≡ big_endian 0 (take 8 (drop i xs)) → y ≡ big_endian 0 (take 8 (drop i ys)) → (x ≡ y → ⊥)
      → nat_cmp x y ≡ name_order xs ys
  word_decides i x y within alike of_xs of_ys apart =
      sym (past_alike i xs ys (omega (arith, in_xs)) (omega (arith, in_ys)) alike
      ∙ word_first 8 0 (drop i xs) (drop i ys) (eight_left i xs in_xs within) (eight_left i ys in_ys within)
      (dropped i xs xs_bytes) (dropped i ys ys_bytes)
      ∙ (λ j. ordering_then (nat_cmp (sym of_xs j) (sym of_ys j)) (name_order (drop 8 (drop i xs)) (drop 8 (drop i ys))))
      ∙ decided x y _ apart)

  -- words that are tied behind what is alike are alike
  pub word_goes_on : (i x y : ℕ) → i + 8 ≤ 64 → AreAlike xs ys i
      → x ≡ big_endian 0 (take 8 (drop i xs)) → y ≡ big_endian 0 (take 8 (drop i ys)) → x ≡ y → AreAlike xs ys (i + 8)
  word_goes_on i x y within alike of_xs of_ys tied k before = by (nat_cmp k i) (ranks k i)
    where
      of_word : AreAlike (drop i xs) (drop i ys) 8
      of_word =
          word_tells 8 0 (drop i xs) (drop i ys) (eight_left i xs in_xs within) (eight_left i ys in_ys within)
          (dropped i xs xs_bytes) (dropped i ys ys_bytes) (sym of_xs ∙ tied ∙ of_ys)

      behind : i ≤ k → get_or xs k 0 ≡ get_or ys k 0
      behind from =
          let place : i + (k - i) ≡ k = omega arith in
          subst (λ j. get_or xs j 0 ≡ get_or ys j 0) place
          (sym (get_or-drop i xs (k - i) 0) ∙ of_word (k - i) (omega arith) ∙ get_or-drop i ys (k - i) 0)

      by : (r : Ordering) → MatchOrdering r (k < i) (k ≡ i) (i < k) → get_or xs k 0 ≡ get_or ys k 0
      by Less below = alike k below
      by Equal level = let at : k ≡ i = level in behind (omega arith)
      by Greater above = let over : i < k = above in behind (omega arith)

  -- cells that are alike throughout are tied
  pub whole_alike : AreAlike xs ys 64 → Equal ≡ name_order xs ys
  whole_alike alike =
      let same : xs ≡ ys = ext_get_or 0 xs ys (in_xs ∙ sym in_ys) (λ k before. alike k (omega (arith, in_xs))) in
      sym (subst (λ zs. name_order xs zs ≡ Equal) same (tied_itself nat_list_cmp_total xs))

  -- and so are those that are alike up to a zero, behind which there are zeros alone
  pub ended_alike : (i : ℕ) → EndsInZeros xs → EndsInZeros ys → AreAlike xs ys (i + 1) → get_or xs i 0 ≡ 0
      → Equal ≡ name_order xs ys
  ended_alike i xs_ends ys_ends alike ended = whole_alike (λ k before. by k (nat_cmp k i) (ranks k i))
    where
      behind : (k : ℕ) → i ≤ k → get_or xs k 0 ≡ get_or ys k 0
      behind k from = xs_ends i k from ended ∙ sym (ys_ends i k from (sym (alike i (omega arith)) ∙ ended))

      by : (k : ℕ) (r : Ordering) → MatchOrdering r (k < i) (k ≡ i) (i < k) → get_or xs k 0 ≡ get_or ys k 0
      by k Less below = alike k (omega (arith, below))
      by k Equal level = let at : k ≡ i = level in behind k (omega arith)
      by k Greater above = let over : i < k = above in behind k (omega arith)

-- the number that the eight bytes from there on spell
abbrev spelled : List ℕ → ℕ → ℕ
spelled xs i =
    get_or xs i 0 * 72057594037927936 + get_or xs (i + 1) 0 * 281474976710656
    + get_or xs (i + 2) 0 * 1099511627776 + get_or xs (i + 3) 0 * 4294967296
    + get_or xs (i + 4) 0 * 16777216 + get_or xs (i + 5) 0 * 65536 + get_or xs (i + 6) 0 * 256 + get_or xs (i + 7) 0

eight_spell : (xs : List ℕ) → 8 ≤ length xs → spelled xs 0 ≡ big_endian 0 (take 8 xs)
eight_spell [] enough = absurd (omega arith)
eight_spell (a ∷ []) enough = absurd (omega arith)
eight_spell (a ∷ b ∷ []) enough = absurd (omega arith)
eight_spell (a ∷ b ∷ c ∷ []) enough = absurd (omega arith)
eight_spell (a ∷ b ∷ c ∷ d ∷ []) enough = absurd (omega arith)
eight_spell (a ∷ b ∷ c ∷ d ∷ e ∷ []) enough = absurd (omega arith)
eight_spell (a ∷ b ∷ c ∷ d ∷ e ∷ f ∷ []) enough = absurd (omega arith)
eight_spell (a ∷ b ∷ c ∷ d ∷ e ∷ f ∷ g ∷ []) enough = absurd (omega arith)
eight_spell (a ∷ b ∷ c ∷ d ∷ e ∷ f ∷ g ∷ h ∷ others) enough = omega arith

-- it is the one that is read
pub eight_from : (xs : List ℕ) (i : ℕ) → i + 8 ≤ length xs → spelled xs i ≡ big_endian 0 (take 8 (drop i xs))
eight_from xs i within =
    let at : (k : ℕ) → get_or (drop i xs) k 0 ≡ get_or xs (i + k) 0 = λ k. get_or-drop i xs k 0 in
    let here : get_or xs (i + 0) 0 ≡ get_or xs i 0 = ap (λ k. get_or xs k 0) (omega arith) in
    omega (arith, eight_spell (drop i xs) (omega (arith, length-drop i xs)), here, at 0, at 1, at 2, at 3, at 4, at 5, at 6, at 7)
