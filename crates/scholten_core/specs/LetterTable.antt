-- What the table of letters is seen as, and what its fields keep
use Rattle.std.specs.Prelude.{ℕ, zero, suc, List, length, ◌==◌, ◌≡◌, ◌≤◌, Bool, false, count_by}
use Rattle.std.specs.Prelude.{not, [], ◌∷◌, Option, None, Some, take, is_none, slice_get, IsSomeAnd, IsTrue}
use Rattle.std.specs.Map.{keys_of, lookup}
use Rattle.scholten_core.specs.declared.parents.Parent.{Parent}
use Rattle.scholten_core.specs.declared.parents.Parent.TheVariants.{Neutral}
use Rattle.scholten_core.specs.declared.letters.Letter.{Letter}
use Rattle.scholten_core.specs.Sound.{IsNumbered}

-- how many letters were ever sent; those that wait or are held, each with its number, in order of number; the numbers that
-- stand in its places, also of letters that are gone; and how many more fit with no more memory
pub record LetterTableState (P : Type 0) : Type 0 where
  pub sent : ℕ
  pub letters : List (ℕ × Letter P)
  pub numbers : List ℕ
  pub room : ℕ

-- the entries, with this value at that place
abbrev pub set_value_at : {X : Type 0} → List (ℕ × X) → ℕ → X → List (ℕ × X)
set_value_at [] at x = []
set_value_at (e ∷ es) zero x = (e.0, x) ∷ es
set_value_at (e ∷ es) (suc at) x = e ∷ set_value_at es at x

module _ {P : Type 0} where
  -- the number stands at that place
  abbrev pub StandsAt : LetterTableState P → ℕ → ℕ → Type 0
  StandsAt table number at = slice_get table.numbers at ≡ Some number

  -- a letter from somebody; what is from nobody is a hole
  abbrev pub from_somebody : Parent → Letter P → Option (Letter P)
  from_somebody Neutral l = None
  from_somebody _ l = Some l

  -- the letters that stand: an entry with none is a hole
  abbrev pub standing : List (ℕ × Option (Letter P)) → List (ℕ × Letter P)
  standing [] = []
  standing ((number, None) ∷ es) = standing es
  standing ((number, Some l) ∷ es) = (number, l) ∷ standing es

  abbrev pub does_wait : Option (Letter P) → Bool
  does_wait None = false
  does_wait (Some l) = not l.held

  -- the number's entry stands at this place, or it has none
  abbrev pub IsPlaceOf : List (ℕ × Option (Letter P)) → ℕ → Option ℕ → Type 0
  IsPlaceOf es number None = lookup (λ n. n == number) es ≡ None
  IsPlaceOf es number (Some at) = slice_get (keys_of es) at ≡ Some number

  -- how many entries pass a test
  abbrev pub count : (Option (Letter P) → Bool) → List (ℕ × Option (Letter P)) → ℕ
  count test es = count_by (λ e. test e.1) es

  -- a waiting letter stands at an index, and so many wait before it
  pub record WaitsAt (es : List (ℕ × Option (Letter P))) (place at : ℕ) : Type 0 where
    pub waits : IsSomeAnd (slice_get es at) (λ e. IsTrue (does_wait e.1))
    pub place_is : count does_wait (take at es) ≡ place

  -- the entries are in order of number; the counts beside them are their own; none waits before the first place, nor
  -- from the last on
  pub record IsTable (sent waits holes first last : ℕ) (es : List (ℕ × Option (Letter P))) : Type 0 where
    pub numbers : IsNumbered 0 es sent
    pub waiting : waits ≡ count does_wait es
    pub gone : holes ≡ count is_none es
    pub before : count does_wait (take first es) ≡ 0
    pub all : count does_wait (take last es) ≡ waits
    pub within_first : first ≤ length es
    pub within_last : last ≤ length es
