-- Texts: their pieces between the places of a byte, and what is left without their outer spaces.
use Rattle.std.specs.Prelude.{ℕ, Bool, List, [], ◌∷◌, ◌==◌, IsTrue, if◌then◌else◌}
use Rattle.std.specs.List.{list_all, slice_split}

-- '.'
abbrev pub dot : ℕ
dot = 46

-- what stands before, between and after the places of a byte
abbrev pub pieces : ℕ → List ℕ → List (List ℕ)
pieces byte text = slice_split (λ b. b == byte) text

-- a space is the byte 32
abbrev pub is_space : ℕ → Bool
is_space b = b == 32

-- nothing but spaces
abbrev pub is_blank : List ℕ → Bool
is_blank text = list_all is_space text

-- zero or more spaces
abbrev pub IsSpaces : List ℕ → Type 0
IsSpaces text = IsTrue (is_blank text)

-- the text without the spaces in front
abbrev pub trim_start : List ℕ → List ℕ
trim_start [] = []
trim_start (b ∷ bs) = if is_space b then trim_start bs else b ∷ bs

-- the text without the spaces at its end
abbrev pub trim_end : List ℕ → List ℕ
trim_end [] = []
trim_end (b ∷ bs) = if is_blank (b ∷ bs) then [] else b ∷ trim_end bs

-- the text without its outer spaces
abbrev pub trim : List ℕ → List ℕ
trim text = trim_end (trim_start text)
