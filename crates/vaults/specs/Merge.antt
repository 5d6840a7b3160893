-- Two lists of names in order become one, with a mark for those of the second.
use Rattle.std.specs.Prelude.{ℕ, Bool, true, false, List, [], ◌∷◌, ◌≡◌, ◌||◌}
use Rattle.std.specs.List.{All}
use Rattle.std.specs.List.Sorted.{IsStrictlySortedBy}
use Rattle.names.specs.Name.{is_same, name_order}
use Rattle.vaults.specs.declared.marks.Seen.{Seen}
use Rattle.vaults.specs.Journal.{names_in}
use Rattle.vaults.specs.Book.{is_listed}

-- a name whose vault everybody reads
abbrev pub to_everybody : List ℕ → Seen
to_everybody name = record { name = name; to_all = true }

-- the list begins with the name
abbrev pub is_first : List ℕ → List (List ℕ) → Bool
is_first name [] = false
is_first name (x ∷ xs) = is_same x name

-- the names of both lists in order, each once; marked are those of the second
pub record AreMerged (names public : List (List ℕ)) (seen : List Seen) : Type 0 where
  pub in_order : IsStrictlySortedBy name_order (names_in seen)
  pub of_both : (name : List ℕ) → is_listed (names_in seen) name ≡ (is_listed names name || is_listed public name)
  pub marked : All (λ s. s.to_all ≡ is_listed public s.name) seen
