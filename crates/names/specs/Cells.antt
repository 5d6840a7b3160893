-- Sixty-four cells that hold a name.
use Rattle.std.specs.Prelude.{ℕ, List, ◌≡◌, ◌≤◌, ◌-◌, ◌++◌, length, take, replicate, get_or}
use Rattle.std.proofs.Common.{◌∙◌, sym, ap, subst}
use Rattle.std.proofs.lemmas.List.{length-take-le}
use Rattle.names.specs.Name.{IsName}

-- the first cells hold a name of this length, and the cells behind it are zero
pub record HoldsName (cells : List ℕ) (len : ℕ) : Type 0 where
  pub within : len ≤ 64
  pub all : length cells ≡ 64
  pub padded : cells ≡ take len cells ++ replicate (64 - len) 0
  pub name : IsName (take len cells)

-- behind a zero cell there are zero cells alone
abbrev pub EndsInZeros : List ℕ → Type 0
EndsInZeros cells = (i j : ℕ) → i ≤ j → get_or cells i 0 ≡ 0 → get_or cells j 0 ≡ 0

-- a held name is as long as it says
pub length_held : (cells : List ℕ) (len : ℕ) → HoldsName cells len → length (take len cells) ≡ len
length_held cells len h = length-take-le len cells (subst (λ (n : ℕ). len ≤ n) (sym h.all) h.within)

-- the name, padded again, gives the cells back
pub cells_again : (cells : List ℕ) (len : ℕ) → HoldsName cells len → take len cells ++ replicate (64 - length (take len cells)) 0 ≡ cells
cells_again cells len h =
    ap (λ (n : ℕ). take len cells ++ replicate (64 - n) 0) (length_held cells len h) ∙ sym h.padded
