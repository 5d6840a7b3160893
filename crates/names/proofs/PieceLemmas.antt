-- The pieces of a text.
use Rattle.std.proofs.Common.{ℕ, List, [], ◌∷◌, ◌++◌, ◌+◌, ◌-◌, ◌<◌, ◌≡◌, ◌==◌, ◌∙◌, sym, ap, refl, length, take, drop, get_or, arith}
use Rattle.std.specs.List.{before_first, after_first, position_or_len}
use Rattle.std.proofs.lemmas.List.{take_rest, take_all}
use Rattle.std.proofs.lemmas.List.Splits.{slice_split_at, slice_split_first, slice_split_none, length-slice_split}
use Rattle.std.proofs.lemmas.List.Sums.{split_at_first, passes_at_first, fails_before_first}
use Rattle.std.proofs.lemmas.Bool.{eq-eqb, eqb-true}
use Rattle.names.specs.Texts.{pieces}
use Rattle.names.proofs.Avoiding.{Avoids}

-- a text in which the byte doesn't stand is its one piece
pub pieces_none : (byte : ℕ) (text : List ℕ) → Avoids byte text → pieces byte text ≡ text ∷ []
pieces_none byte text none = slice_split_none (λ b. b == byte) text none

-- the first piece ends at the first place of the byte
pub pieces_at : (byte : ℕ) (piece rest : List ℕ) → Avoids byte piece → pieces byte (piece ++ byte ∷ rest) ≡ piece ∷ pieces byte rest
pieces_at byte piece rest none = slice_split_at (λ b. b == byte) piece byte rest none (eq-eqb byte byte refl)

-- a text is cut where the byte stands first
module _ (byte : ℕ) (text : List ℕ) (place : ℕ) (is : position_or_len (λ b. b == byte) text ≡ place) (within : place < length text) where
  inside : position_or_len (λ b. b == byte) text < length text
  inside = omega arith

  pub before_place : take place text ≡ before_first (λ b. b == byte) text
  before_place = ap (λ (n : ℕ). take n text) (sym is)

  pub after_place : take (length text - (place + 1)) (drop (place + 1) text) ≡ after_first (λ b. b == byte) text
  after_place = take_rest text (place + 1) ∙ ap (λ (n : ℕ). drop (n + 1) text) (sym is)

  pub pieces_place : pieces byte text ≡ take place text ∷ pieces byte (take (length text - (place + 1)) (drop (place + 1) text))
  pieces_place = rw (before_place, after_place) (slice_split_first (λ b. b == byte) text 0 inside)

  pub whole_place : text ≡ take place text ++ byte ∷ take (length text - (place + 1)) (drop (place + 1) text)
  whole_place =
      let here : get_or text (position_or_len (λ b. b == byte) text) 0 ≡ byte = eqb-true _ byte (passes_at_first (λ b. b == byte) text 0 inside) in
      split_at_first (λ b. b == byte) text 0 inside
      ∙ ap (λ (b : ℕ). before_first (λ b. b == byte) text ++ b ∷ after_first (λ b. b == byte) text) here
      ∙ ap (λ (xs : List ℕ). xs ++ byte ∷ after_first (λ b. b == byte) text) (sym before_place)
      ∙ ap (λ (xs : List ℕ). take place text ++ byte ∷ xs) (sym after_place)

-- where it doesn't stand, the text is whole
module _ (byte : ℕ) (text : List ℕ) (none : position_or_len (λ b. b == byte) text ≡ length text) where
  pub before_none : text ≡ before_first (λ b. b == byte) text
  before_none = sym (ap (λ (n : ℕ). take n text) none ∙ take_all (length text) text (omega arith))

  pub pieces_nowhere : pieces byte text ≡ text ∷ []
  pieces_nowhere = slice_split_none (λ b. b == byte) text (λ k d at. fails_before_first (λ b. b == byte) text k d (omega arith))

-- there is always a piece
pub some_piece : (byte : ℕ) (text : List ℕ) → 0 < length (pieces byte text)
some_piece byte text = omega (arith, length-slice_split (λ (b : ℕ). b == byte) text)
