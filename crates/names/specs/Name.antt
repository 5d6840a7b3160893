-- What a name is: an ASCII letter, then ASCII letters, digits, '_' and '-', 64 bytes at most.
use Rattle.std.specs.Prelude.{ℕ, Bool, false, List, [], ◌∷◌, ◌==◌, ◌&&◌, ◌||◌, nat_eq, nat_le, length, IsTrue}
use Rattle.std.specs.List.{list_all}
use Rattle.std.specs.declared.cmp.Ordering.{Ordering}
use Rattle.std.specs.Ordering.{nat_cmp}
use Rattle.std.specs.Cmp.Lexicographic.{pointwise, slice_cmp}

-- 'A' to 'Z' and 'a' to 'z'
abbrev pub is_letter : ℕ → Bool
is_letter b = (nat_le 65 b && nat_le b 90) || (nat_le 97 b && nat_le b 122)

-- '0' to '9'
abbrev pub is_digit : ℕ → Bool
is_digit b = nat_le 48 b && nat_le b 57

-- a letter, a digit, '_' or '-'
abbrev pub is_name_byte : ℕ → Bool
is_name_byte b = is_letter b || is_digit b || b == 95 || b == 45

-- a letter, then letters, digits, '_' and '-', 64 bytes at most
abbrev pub is_name : List ℕ → Bool
is_name [] = false
is_name (b ∷ bs) = is_letter b && list_all is_name_byte bs && nat_le (length (b ∷ bs)) 64

-- the text is a name
abbrev pub IsName : List ℕ → Type 0
IsName text = IsTrue (is_name text)

-- the same name, byte by byte
abbrev pub is_same : List ℕ → List ℕ → Bool
is_same = pointwise nat_eq

-- the order of names: by their bytes, a prefix first
abbrev pub name_order : List ℕ → List ℕ → Ordering
name_order = slice_cmp nat_cmp
