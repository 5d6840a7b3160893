-- A text without its outer spaces.
use Rattle.std.proofs.Common.{ℕ, suc, true, false, List, [], ◌∷◌, ◌++◌, ◌≡◌, ◌==◌, refl, ap, sym, ◌∙◌}
use Rattle.std.proofs.Common.{inl, inr, append_assoc, ◌+◌, ◌-◌, ◌<◌, ◌≤◌, length, take, drop, drop-cons, get_or, arith}
use Rattle.std.specs.List.{list_all}
use Rattle.std.proofs.lemmas.List.{append-nil, take_more}
use Rattle.std.proofs.lemmas.List.Elements.{All-head, All-tail}
use Rattle.std.proofs.lemmas.Bool.{and_parts, and_cases, and_from, and_left, and_right, cases_Bool, cond-true, cond-false, ne_eqb}
use Rattle.names.proofs.Avoiding.{Avoids}
use Rattle.names.specs.Texts.{is_space, IsSpaces, trim_start, trim_end, trim}

-- the first byte of a text that a byte doesn't stand in, and the rest
pub avoids_parts : (byte b : ℕ) (bs : List ℕ) → Avoids byte (b ∷ bs) → ((b == byte) ≡ false) × Avoids byte bs
avoids_parts byte b bs avoids = (All-head (λ (x : ℕ). (x == byte) ≡ false) b bs avoids, All-tail (λ (x : ℕ). (x == byte) ≡ false) b bs avoids)

pub spaces_append : (l r : List ℕ) → IsSpaces l → IsSpaces r → IsSpaces (l ++ r)
spaces_append [] r in_l in_r = in_r
spaces_append (b ∷ bs) r in_l in_r =
    let both : ((b == 32) ≡ true) × IsSpaces bs = and_parts (b == 32) (list_all is_space bs) in_l in
    and_from (b == 32) (list_all is_space (bs ++ r)) both.0 (spaces_append bs r both.1 in_r)

-- leading spaces don't matter
pub trim_start-spaces : (l m : List ℕ) → IsSpaces l → trim_start (l ++ m) ≡ trim_start m
trim_start-spaces [] m spaces = refl
trim_start-spaces (b ∷ bs) m spaces =
    let both : ((b == 32) ≡ true) × IsSpaces bs = and_parts (b == 32) (list_all is_space bs) spaces in
    cond-true (b == 32) (trim_start (bs ++ m)) (b ∷ (bs ++ m)) both.0 ∙ trim_start-spaces bs m both.1

pub trim_end-spaces : (r : List ℕ) → IsSpaces r → trim_end r ≡ []
trim_end-spaces [] spaces = refl
trim_end-spaces (b ∷ bs) spaces = cond-true (list_all is_space (b ∷ bs)) [] (b ∷ trim_end bs) spaces

-- trailing spaces go where no space stands before them
pub trim_end-round : (m r : List ℕ) → Avoids 32 m → IsSpaces r → trim_end (m ++ r) ≡ m
trim_end-round [] r avoids spaces = trim_end-spaces r spaces
trim_end-round (b ∷ bs) r avoids spaces =
    let both : ((b == 32) ≡ false) × Avoids 32 bs = avoids_parts 32 b bs avoids in
    cond-false (list_all is_space (b ∷ (bs ++ r))) [] (b ∷ trim_end (bs ++ r)) (and_left (b == 32) (list_all is_space (bs ++ r)) both.0)
    ∙ ap (λ (t : List ℕ). b ∷ t) (trim_end-round bs r both.1 spaces)

trim-after : (m r : List ℕ) → Avoids 32 m → IsSpaces r → trim (m ++ r) ≡ m
trim-after [] r avoids spaces =
    ap (λ (t : List ℕ). trim_end (trim_start t)) (sym (append-nil r)) ∙ ap trim_end (trim_start-spaces r [] spaces)
trim-after (b ∷ bs) r avoids spaces =
    let both : ((b == 32) ≡ false) × Avoids 32 bs = avoids_parts 32 b bs avoids in
    ap trim_end (cond-false (b == 32) (trim_start (bs ++ r)) (b ∷ (bs ++ r)) both.0) ∙ trim_end-round (b ∷ bs) r avoids spaces

-- a text without spaces is what is left between spaces
pub trim-round : (l m r : List ℕ) → IsSpaces l → Avoids 32 m → IsSpaces r → trim (l ++ m ++ r) ≡ m
trim-round l m r before avoids after =
    ap trim (append_assoc l m r) ∙ ap trim_end (trim_start-spaces l (m ++ r) before) ∙ trim-after m r avoids after

-- a text as what is left of it, between its outer spaces
pub record Trimmed (text : List ℕ) : Type 0 where
  pub left : List ℕ
  pub right : List ℕ
  pub spaces_left : IsSpaces left
  pub spaces_right : IsSpaces right
  pub whole : text ≡ left ++ trim text ++ right

record Started (text : List ℕ) : Type 0 where
  left : List ℕ
  spaces : IsSpaces left
  whole : text ≡ left ++ trim_start text

record Ended (text : List ℕ) : Type 0 where
  right : List ℕ
  spaces : IsSpaces right
  whole : text ≡ trim_end text ++ right

started : (text : List ℕ) → Started text
started [] = record { left = []; spaces = refl; whole = refl }
started (b ∷ bs) =
    let rest : Started bs = started bs in
    elim (cases_Bool (b == 32)) [
      | inl space ↦ record {
        left = b ∷ rest.left;
        spaces = and_from (b == 32) (list_all is_space rest.left) space rest.spaces;
        whole = ap (λ (t : List ℕ). b ∷ t) rest.whole ∙ ap (λ (t : List ℕ). b ∷ (rest.left ++ t)) (sym (cond-true (b == 32) (trim_start bs) (b ∷ bs) space));
      }
      | inr other ↦ record { left = []; spaces = refl; whole = sym (cond-false (b == 32) (trim_start bs) (b ∷ bs) other) }
    ]

ended : (text : List ℕ) → Ended text
ended [] = record { right = []; spaces = refl; whole = refl }
ended (b ∷ bs) =
    let rest : Ended bs = ended bs in
    elim (cases_Bool (list_all is_space (b ∷ bs))) [
      | inl spaces ↦ record {
        right = b ∷ bs;
        spaces = spaces;
        whole = ap (λ (t : List ℕ). t ++ b ∷ bs) (sym (trim_end-spaces (b ∷ bs) spaces));
      }
      | inr other ↦ record {
        right = rest.right;
        spaces = rest.spaces;
        whole = ap (λ (t : List ℕ). b ∷ t) rest.whole ∙ ap (λ (t : List ℕ). t ++ rest.right) (sym (cond-false (list_all is_space (b ∷ bs)) [] (b ∷ trim_end bs) other));
      }
    ]

regrouped : (text l s e r : List ℕ) → text ≡ l ++ s → s ≡ e ++ r → text ≡ l ++ e ++ r
regrouped text l s e r outer inner = outer ∙ ap (λ (t : List ℕ). l ++ t) inner ∙ sym (append_assoc l e r)

-- each text is what is left of it, between spaces
pub trim_parts : (text : List ℕ) → Trimmed text
trim_parts text =
    let s : Started text = started text in
    let e : Ended (trim_start text) = ended (trim_start text) in
    record {
      left = s.left;
      right = e.right;
      spaces_left = s.spaces;
      spaces_right = e.spaces;
      whole = regrouped text s.left (trim_start text) (trim text) e.right s.whole e.whole;
    }

-- what isn't all spaces isn't with more behind it
pub more_than_spaces : (xs ys : List ℕ) → list_all is_space xs ≡ false → list_all is_space (xs ++ ys) ≡ false
more_than_spaces [] ys other = cc
more_than_spaces (x ∷ xs) ys other =
    elim (and_cases (x == 32) (list_all is_space xs) other) [
      | inl first ↦ and_left (x == 32) (list_all is_space (xs ++ ys)) first
      | inr later ↦ and_right (x == 32) (list_all is_space (xs ++ ys)) (more_than_spaces xs ys later)
    ]

ends_in_other : (xs : List ℕ) (y : ℕ) → (y == 32) ≡ false → list_all is_space (xs ++ y ∷ []) ≡ false
ends_in_other [] y other = and_left (y == 32) true other
ends_in_other (x ∷ xs) y other = and_right (x == 32) (list_all is_space (xs ++ y ∷ [])) (ends_in_other xs y other)

-- a last byte that is a space goes
pub trim_end-space : (xs : List ℕ) → trim_end (xs ++ 32 ∷ []) ≡ trim_end xs
trim_end-space [] = refl
trim_end-space (x ∷ xs) =
    elim (cases_Bool (list_all is_space (x ∷ xs))) [
      | inl spaces ↦
          cond-true (list_all is_space (x ∷ (xs ++ 32 ∷ []))) [] (x ∷ trim_end (xs ++ 32 ∷ [])) (spaces_append (x ∷ xs) (32 ∷ []) spaces refl)
          ∙ sym (cond-true (list_all is_space (x ∷ xs)) [] (x ∷ trim_end xs) spaces)
      | inr other ↦
          cond-false (list_all is_space (x ∷ (xs ++ 32 ∷ []))) [] (x ∷ trim_end (xs ++ 32 ∷ [])) (more_than_spaces (x ∷ xs) (32 ∷ []) other)
          ∙ ap (λ (t : List ℕ). x ∷ t) (trim_end-space xs)
          ∙ sym (cond-false (list_all is_space (x ∷ xs)) [] (x ∷ trim_end xs) other)
    ]

-- a last byte that is no space stays, with all before it
pub trim_end-other : (xs : List ℕ) (y : ℕ) → (y == 32) ≡ false → trim_end (xs ++ y ∷ []) ≡ xs ++ y ∷ []
trim_end-other [] y other = cond-false (list_all is_space (y ∷ [])) [] (y ∷ []) (and_left (y == 32) true other)
trim_end-other (x ∷ xs) y other =
    cond-false (list_all is_space (x ∷ (xs ++ y ∷ []))) [] (x ∷ trim_end (xs ++ y ∷ [])) (and_right (x == 32) (list_all is_space (xs ++ y ∷ [])) (ends_in_other xs y other))
    ∙ ap (λ (t : List ℕ). x ∷ t) (trim_end-other xs y other)

last_of : (text : List ℕ) (end : ℕ) → 0 < end → end ≤ length text → take end text ≡ take (end - 1) text ++ get_or text (end - 1) 0 ∷ []
last_of text end some within =
    let here : end - 1 < length text = omega arith in
    let one : end - 1 + 1 ≡ end = omega arith in
    ap (λ (n : ℕ). take n text) (sym one) ∙ take_more text (end - 1) 0 here

-- the last of the first bytes is a space
pub space_last : (text : List ℕ) (end : ℕ) → 0 < end → end ≤ length text → get_or text (end - 1) 0 ≡ 32 → trim_end (take end text) ≡ trim_end (take (end - 1) text)
space_last text end some within is =
    ap trim_end (last_of text end some within ∙ ap (λ (b : ℕ). take (end - 1) text ++ b ∷ []) is) ∙ trim_end-space (take (end - 1) text)

-- the last of the first bytes is no space
pub other_last : (text : List ℕ) (end : ℕ) → 0 < end → end ≤ length text → (get_or text (end - 1) 0 ≡ 32 → ⊥) → trim_end (take end text) ≡ take end text
other_last text end some within other =
    let last : take end text ≡ take (end - 1) text ++ get_or text (end - 1) 0 ∷ [] = last_of text end some within in
    ap trim_end last ∙ trim_end-other (take (end - 1) text) (get_or text (end - 1) 0) (ne_eqb (get_or text (end - 1) 0) 32 other) ∙ sym last

-- a text that begins with no space keeps all
pub other_first : (text : List ℕ) (i : ℕ) → i < length text → (get_or text i 0 ≡ 32 → ⊥)
    → trim_start (drop i text) ≡ drop i text
other_first text i inside other =
    let first : drop i text ≡ get_or text i 0 ∷ drop (suc i) text = drop-cons text i 0 inside in
    ap trim_start first
    ∙ cond-false (get_or text i 0 == 32) (trim_start (drop (suc i) text)) _ (ne_eqb (get_or text i 0) 32 other)
    ∙ sym first

-- a text is blank where nothing of it is left without the spaces in front
pub blank_start : (text : List ℕ) → (length (trim_start text) == 0) ≡ list_all is_space text
blank_start [] = refl
blank_start (b ∷ bs) =
    elim (cases_Bool (b == 32)) [
      | inl is ↦ ap (λ (t : List ℕ). length t == 0) (cond-true (b == 32) (trim_start bs) (b ∷ bs) is) ∙ blank_start bs ∙ simp is
      | inr not ↦ ap (λ (t : List ℕ). length t == 0) (cond-false (b == 32) (trim_start bs) (b ∷ bs) not)
          ∙ ne_eqb (length (b ∷ bs)) 0 (λ e. cc) ∙ sym (and_left (b == 32) (list_all is_space bs) not)
    ]
