-- Lemmas on a number's digits.
use Rattle.std.proofs.Common.{◌≡◌, ℕ, ◌^◌, ◌<◌, ◌≤◌, leb, ltb, Bool, true, false, List, [], ◌∷◌, length, get_or, arith, refl, sym, ap, ◌∙◌}
use Rattle.std.proofs.Common.{Option, None, Some, Result, Ok, Err}
use Rattle.std.specs.Prelude.{◌&&◌, if◌then◌else◌, OkIff}
use Rattle.std.specs.Result.{result_ok}
use Rattle.std.specs.List.{list_all}
use Rattle.std.specs.Str.{IsUtf8}
use Rattle.std.specs.Str.Parse.{ParsesUnsigned, digits_value}
use Rattle.std.proofs.lemmas.Bool.{and_parts, and_from, leb-true, le-leb, lt-ltb, false≢true}
use Rattle.std.proofs.lemmas.Fmt.{IsAscii-from_digits}
use Rattle.std.proofs.lemmas.Str.{IsUtf8-from_ascii}
use Rattle.std.proofs.lemmas.Str.Parse.{IsNumeralModel, numerals_by_value, digits_value_short, parse_plain}
use Rattle.names.specs.Name.{is_digit}
use Rattle.service.specs.Words.{number_of}

-- the text of a number: 1 to 10 decimal digits, the first not 0
abbrev is_number : List ℕ → Bool
is_number text = ltb 48 (get_or text 0 0) && (leb (length text) 10 && list_all is_digit text)

-- digits, by the test of each
digits : IsNumeralModel (λ ds. list_all is_digit ds ≡ true) (digits_value 10)
digits =
    numerals_by_value (λ ds. list_all is_digit ds ≡ true) (record {
      empty = refl;
      parts = λ c cs all.
          let both = and_parts (is_digit c) (list_all is_digit cs) all in
          let first = and_parts (leb 48 c) (leb c 57) both.0 in
          ((leb-true 48 c first.0, leb-true c 57 first.1), both.1);
      more = λ c cs first all.
          and_from (is_digit c) (list_all is_digit cs) (and_from (leb 48 c) (leb c 57) (le-leb 48 c first.0) (le-leb c 57 first.1)) all;
    })

-- a text that begins with a byte has one
some : (text : List ℕ) → 48 < get_or text 0 0 → 0 < length text
some [] first = absurd (omega (arith, first))
some (b ∷ bs) first = omega arith

-- a number's text has 1 to 10 digits
digits_of : (text : List ℕ) → is_number text ≡ true → (0 < length text) × (length text ≤ 10) × (list_all is_digit text ≡ true)
digits_of [] is = absurd (false≢true is)
digits_of (b ∷ bs) is =
    let both = and_parts (ltb 48 b) (leb (length (b ∷ bs)) 10 && list_all is_digit (b ∷ bs)) is in
    let others = and_parts (leb (length (b ∷ bs)) 10) (list_all is_digit (b ∷ bs)) both.1 in
    (omega arith, leb-true (length (b ∷ bs)) 10 others.0, others.1)

-- a number's digits are text
pub IsUtf8-number : (text : List ℕ) → is_number text ≡ true → IsUtf8 text
IsUtf8-number text is = IsUtf8-from_ascii text (IsAscii-from_digits text (digits.to text (digits_of text is).2))

-- what is no text is no number
pub number_of-no_text : (text : List ℕ) → (IsUtf8 text → ⊥) → None ≡ number_of text
number_of-no_text text never = by (is_number text) refl
  where
    by : (is : Bool) → is_number text ≡ is → ◌≡◌ {A = Option ℕ} None (if is then Some (digits_value 10 text) else None)
    by true number = absurd (never (IsUtf8-number text number))
    by false number = refl

-- a short text that doesn't begin with a sign or with 0 is parsed as its number, or as none
pub number_parsed : {E : Type 0} (text : List ℕ) (r : Result ℕ E) → 48 < get_or text 0 0 → length text ≤ 10 →
    ParsesUnsigned 64 10 text r → result_ok r ≡ number_of text
number_parsed {E} text r first short parses =
    rw (lt-ltb 48 (get_or text 0 0) first, le-leb (length text) 10 short)
    (by (list_all is_digit text) refl r (parse_plain digits 64 text r parses (λ plus. omega (arith, first, plus))))
  where
    value : ℕ
    value = digits_value 10 text

    by : (all : Bool) → list_all is_digit text ≡ all → (r : Result ℕ E) →
        OkIff r ((list_all is_digit text ≡ true) × (0 < length text) × (value < 2 ^ 64)) value → result_ok r ≡ (if all then Some value else None)
    by true are (Ok n) read = ap Some read.1
    by false are (Ok n) read = absurd (false≢true (sym are ∙ read.0.0))
    by false are (Err e) read = refl
    by true are (Err e) read = absurd (read (are, some text first, omega (arith, digits_value_short digits text 10 are short)))
