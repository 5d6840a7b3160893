-- What stands next to a place in a list.
use Rattle.std.specs.Prelude.{ℕ, Bool, true, false, List, Some, ◌≡◌, ◌+◌, ◌-◌, ◌<◌, nat_lt, length, if◌then◌else◌}
use Rattle.std.specs.List.{slice_get}

-- the element below the place, if there is one, passes
abbrev pub PassesBelow : {X : Type 0} → (X → Bool) → List X → ℕ → Type 0
PassesBelow {X} p xs place = (x : X) → 0 < place → slice_get xs (place - 1) ≡ Some x → p x ≡ true

-- the element at the place, if there is one, fails
abbrev pub FailsAt : {X : Type 0} → (X → Bool) → List X → ℕ → Type 0
FailsAt {X} p xs place = (x : X) → slice_get xs place ≡ Some x → p x ≡ false

-- one for what holds
abbrev pub one : Bool → ℕ
one true = 1
one false = 0

-- how many elements stand next to the place: one below it, one at it; none where the place is past the end
abbrev pub neighbours : {X : Type 0} → List X → ℕ → ℕ
neighbours xs place = if nat_lt (length xs) place then 0 else one (nat_lt 0 place) + one (nat_lt place (length xs))
