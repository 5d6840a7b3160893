-- Lemmas on the words of a text.
use Rattle.std.proofs.Common.{◌≡◌, ℕ, ◌<◌, Bool, true, false, ltb, List, [], ◌∷◌, length, arith, refl, sym, ap, ◌∙◌, inl, inr}
use Rattle.std.specs.Prelude.{filter, not}
use Rattle.std.specs.List.{slice_split, position_or_len, before_first, after_first}
use Rattle.std.proofs.lemmas.Bool.{cases_lt, lt-ltb}
use Rattle.std.proofs.lemmas.List.{take_all, length-take}
use Rattle.std.proofs.lemmas.List.Splits.{slice_split-cons_yes, slice_split_first, slice_split_none}
use Rattle.std.proofs.lemmas.List.Sums.{prefix_len-le-length, fails_before_first}
use Rattle.std.proofs.Math.ListN.{drop_of_length-le}
use Rattle.service.specs.Words.{is_space, words, trim_start, after_word}

-- the first word
abbrev first_word : List ℕ → List ℕ
first_word text = before_first is_space (trim_start text)

-- the parts that are words
abbrev only_words : List (List ℕ) → List (List ℕ)
only_words parts = filter (λ w. ltb 0 (length w)) parts

-- a part with a byte in it is a word
only_words-cons : (part : List ℕ) (parts : List (List ℕ)) → 0 < length part → only_words (part ∷ parts) ≡ part ∷ only_words parts
only_words-cons part parts some = rw (lt-ltb 0 (length part) some) refl

-- a space in front changes no word
words-space : (b : ℕ) (text : List ℕ) → is_space b ≡ true → words (b ∷ text) ≡ words text
words-space b text space = ap only_words (slice_split-cons_yes is_space b text space)

trim_start-space : (b : ℕ) (text : List ℕ) → is_space b ≡ true → trim_start (b ∷ text) ≡ trim_start text
trim_start-space b text space = rw space refl

-- nothing stands in front of a byte that is no space
trim_start-visible : (b : ℕ) (text : List ℕ) → is_space b ≡ false → trim_start (b ∷ text) ≡ b ∷ text
trim_start-visible b text visible = rw visible refl

-- the place of the first space is past such a byte
space_after : (b : ℕ) (text : List ℕ) → is_space b ≡ false → 0 < position_or_len is_space (b ∷ text)
space_after b text visible = rw visible (omega arith)

-- a text that begins with a byte of a word: its first word, and the others
words-visible : (b : ℕ) (text : List ℕ) → is_space b ≡ false → words (b ∷ text) ≡ before_first is_space (b ∷ text) ∷ words (after_first is_space (b ∷ text))
words-visible b text visible =
    let at = space_after b text visible in
    let all = b ∷ text in
    let n = position_or_len is_space all in
    elim (cases_lt n (length all)) [
      | inl inside ↦
          ap only_words (slice_split_first is_space all 0 inside)
          ∙ only_words-cons (before_first is_space all) (slice_split is_space (after_first is_space all)) (omega (arith, length-take n all))
      | inr outside ↦
          let none : n ≡ length all = omega (arith, prefix_len-le-length (λ x. not (is_space x)) all) in
          let first : before_first is_space all ≡ all = take_all n all outside in
          let rest : after_first is_space all ≡ [] = drop_of_length-le all (omega arith) in
          ap only_words (slice_split_none is_space all (λ k d within. fails_before_first is_space all k d (omega arith)))
          ∙ only_words-cons all [] (omega arith)
          ∙ sym (ap (λ w. w ∷ words (after_first is_space all)) first ∙ ap (λ t. all ∷ words t) rest)
    ]

-- the first word of a text, and its other words
abbrev split_words : List ℕ → List (List ℕ)
split_words visible = before_first is_space visible ∷ words (after_first is_space visible)

-- the step by one byte, by whether it is a space
words-first_step : (b : ℕ) (text : List ℕ) (v : Bool) → is_space b ≡ v → (0 < length (trim_start text) → words text ≡ split_words (trim_start text)) → 0 < length (trim_start (b ∷ text)) → words (b ∷ text) ≡ split_words (trim_start (b ∷ text))
words-first_step b text true space later some =
    let same = trim_start-space b text space in
    words-space b text space ∙ later (omega (arith, some, ap length same)) ∙ sym (ap split_words same)
words-first_step b text false visible later some =
    words-visible b text visible ∙ sym (ap split_words (trim_start-visible b text visible))

-- a text has a first word where a byte is no space
pub words-first : (text : List ℕ) → 0 < length (trim_start text) → words text ≡ first_word text ∷ words (after_word text)
words-first [] some = absurd (omega arith)
words-first (b ∷ text) some = words-first_step b text (is_space b) refl (words-first text) some

words-none_step : (b : ℕ) (text : List ℕ) (v : Bool) → is_space b ≡ v → (length (trim_start text) ≡ 0 → words text ≡ []) → length (trim_start (b ∷ text)) ≡ 0 → words (b ∷ text) ≡ []
words-none_step b text true space later none =
    words-space b text space ∙ later (sym (ap length (trim_start-space b text space)) ∙ none)
words-none_step b text false visible later none =
    absurd (omega (arith, none, ap length (trim_start-visible b text visible)))

-- a text of spaces alone has no word
pub words-none : (text : List ℕ) → length (trim_start text) ≡ 0 → words text ≡ []
words-none [] none = refl
words-none (b ∷ text) none = words-none_step b text (is_space b) refl (words-none text) none

-- the same from a text without the spaces in front, and what it was cut into
pub words-cut : (text visible word rest : List ℕ) → visible ≡ trim_start text → 0 < length visible → word ≡ before_first is_space visible → rest ≡ after_first is_space visible → words text ≡ word ∷ words rest
words-cut text visible word rest trimmed some first others =
    words-first text (omega (arith, some, ap length trimmed)) ∙ sym (ap split_words trimmed)
    ∙ sym (ap (λ w. w ∷ words rest) first ∙ ap (λ t. before_first is_space visible ∷ words t) others)

-- where all of it is the one word, nothing stands behind that
pub after_first-none : (visible : List ℕ) → visible ≡ before_first is_space visible → [] ≡ after_first is_space visible
after_first-none visible all =
    let n = position_or_len is_space visible in
    sym (drop_of_length-le visible (omega (arith, length-take n visible, ap length all)))
