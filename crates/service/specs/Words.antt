-- The words of a text.
use Rattle.std.specs.Prelude.{◌≡◌, ℕ, Bool, ◌==◌, ◌&&◌, nat_lt, nat_le, if◌then◌else◌}
use Rattle.std.specs.Prelude.{List, [], ◌∷◌, length, filter, slice_index, Option, Some, None}
use Rattle.std.specs.{List.slice_split, List.after_first, List.list_all, Str.Parse.digits_value}
use Rattle.names.specs.Name.{is_digit}
pub use Rattle.names.specs.Texts.{is_space, trim_start}
use Rattle.service.specs.declared.words.Arguments.{Arguments}
use Rattle.service.specs.declared.words.Arguments.TheVariants.{Nothing, One, Two, More}

-- the byte that parts a name from its command
abbrev pub is_colon : ℕ → Bool
is_colon b = b == 58

-- the words of a text: its parts between spaces
abbrev pub words : List ℕ → List (List ℕ)
words text = filter (λ w. nat_lt 0 (length w)) (slice_split is_space text)

-- what stands after the first word and the space that ends it
abbrev pub after_word : List ℕ → List ℕ
after_word text = after_first is_space (trim_start text)

-- the number that a text writes, if it writes one: 1 to 10 decimal digits, the first not 0
abbrev pub number_of : List ℕ → Option ℕ
number_of text =
    if nat_lt 48 (slice_index text 0) && (nat_le (length text) 10 && list_all is_digit text) then Some (digits_value 10 text) else None

-- the words are these, up to two of them
abbrev pub AreArguments : List (List ℕ) → Arguments → Type 0
AreArguments words Nothing = words ≡ []
AreArguments words (One first) = words ≡ first.now ∷ []
AreArguments words (Two first second) = words ≡ first.now ∷ second.now ∷ []
AreArguments words More = (first second third : List ℕ) × (more : List (List ℕ)) × (words ≡ first ∷ second ∷ third ∷ more)
