-- Lemmas on the lines of an input.
use Rattle.std.proofs.Common.{◌≡◌, ◌≢◌, All, ℕ, ◌<◌, ◌≤◌, ◌-◌, Bool, true, false, cond, eqb, List, [], ◌∷◌, ◌++◌, length, get_or, take, arith, refl}
use Rattle.std.proofs.Common.{sym, ap, ◌∙◌, inl, inr}
use Rattle.std.specs.List.{slice_split}
use Rattle.std.specs.Str.Lines.{lines, lines_of_parts, strip_carriage_return}
use Rattle.std.proofs.lemmas.Bool.{cases_lt, lt-leb}
use Rattle.std.proofs.lemmas.List.{take_all, length-take}
use Rattle.std.proofs.lemmas.List.Splits.{slice_split_at, slice_split_none, length-slice_split}
use Rattle.std.proofs.lemmas.Bool.Decides.{nat_tests}
use Rattle.service.specs.Line.{line_of, too_long}

-- there is no newline among the bytes
abbrev pub HasNoNewline : List ℕ → Type 0
HasNoNewline bytes = All (λ b. b ≢ 10) bytes

-- a part that another follows is a line, less one carriage return
lines_of_parts-cons : (part : List ℕ) (parts : List (List ℕ)) → 0 < length parts → lines_of_parts (part ∷ parts) ≡ strip_carriage_return part ∷ lines_of_parts parts
lines_of_parts-cons part [] some = absurd (omega arith)
lines_of_parts-cons part (next ∷ more) some = refl

-- no byte passes the test for a newline
fails_newline : (raw : List ℕ) → HasNoNewline raw → (k d : ℕ) → k < length raw → eqb (get_or raw k d) 10 ≡ false
fails_newline raw none k d inside = grind (arith, nat_tests, none k d inside)

-- the bytes up to the first newline are the first line
pub lines-newline : (raw rest : List ℕ) → HasNoNewline raw → lines (raw ++ 10 ∷ rest) ≡ strip_carriage_return raw ∷ lines rest
lines-newline raw rest none =
    ap lines_of_parts (slice_split_at (λ b. eqb b 10) raw 10 rest (fails_newline raw none) refl)
    ∙ lines_of_parts-cons raw (slice_split (λ b. eqb b 10) rest) (omega (arith, length-slice_split (λ b. eqb b 10) rest))

-- a last part that isn't empty is a line
last_part : (part : List ℕ) → 0 < length part → lines_of_parts (part ∷ []) ≡ part ∷ []
last_part [] some = absurd (omega arith)
last_part (b ∷ bs) some = grind (arith, nat_tests)

-- what no newline follows is a line where there is any
pub lines-last : (raw : List ℕ) → HasNoNewline raw → 0 < length raw → lines raw ≡ raw ∷ []
lines-last raw none some =
    ap lines_of_parts (slice_split_none (λ b. eqb b 10) raw (fails_newline raw none)) ∙ last_part raw some

-- bytes that are too many for a line
pub line_of-long : (bytes : List ℕ) → 4096 < length bytes → line_of bytes ≡ too_long
line_of-long bytes long = rw (lt-leb (length bytes) 4096 long) refl

-- the room for a line is enough to know the line by
pub line_of-kept : (raw : List ℕ) → line_of (take 4098 raw) ≡ line_of raw
line_of-kept raw =
    elim (cases_lt 4098 (length raw)) [
      | inl longer ↦ line_of-long (take 4098 raw) (omega (arith, length-take 4098 raw)) ∙ sym (line_of-long raw (omega arith))
      | inr short ↦ ap line_of (take_all 4098 raw short)
    ]

-- a list without its last element, or whole
take_last_le : (b : Bool) (bytes : List ℕ) → length bytes - 1 ≤ length (cond b (take (length bytes - 1) bytes) bytes)
take_last_le true bytes = omega (arith, length-take (length bytes - 1) bytes)
take_last_le false bytes = omega arith

-- stripping takes one byte at most
length-strip : (bytes : List ℕ) → length bytes - 1 ≤ length (strip_carriage_return bytes)
length-strip bytes = take_last_le (eqb (get_or bytes (length bytes - 1) 0) 13) bytes

-- the same for a line that loses its carriage return
pub line_of-stripped_kept : (raw : List ℕ) → line_of (strip_carriage_return (take 4098 raw)) ≡ line_of (strip_carriage_return raw)
line_of-stripped_kept raw =
    elim (cases_lt 4098 (length raw)) [
      | inl longer ↦
          line_of-long (strip_carriage_return (take 4098 raw)) (omega (arith, length-take 4098 raw, length-strip (take 4098 raw)))
          ∙ sym (line_of-long (strip_carriage_return raw) (omega (arith, length-strip raw)))
      | inr short ↦ ap (λ bytes. line_of (strip_carriage_return bytes)) (take_all 4098 raw short)
    ]
