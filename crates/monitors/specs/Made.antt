-- What stands on the heap once it was made.
use Rattle.std.specs.Prelude.{Option, Some, None, Box, List, [], ◌≡◌, ⊤}
use Rattle.std.specs.declared.alloc.Global.{Global}

-- what is seen of it, or where nothing was made, of nothing
abbrev pub made_or : {T S : Type 0} → S → (T → S) → Option (Box T Global) → S
made_or nothing seen None = nothing
made_or nothing seen (Some made) = seen made.value

-- the keys of a set
abbrev pub keys_in : {K : Type 0} → Option (Box (List K) Global) → List K
keys_in = made_or [] (λ keys. keys)

-- what there was stays, and what is made is empty
abbrev pub Begins : {T : Type 0} → (T → Type 0) → Option (Box T Global) → Option (Box T Global) → Type 0
Begins IsEmpty (Some old) new = new ≡ Some old
Begins IsEmpty None None = ⊤
Begins IsEmpty None (Some made) = IsEmpty made.value
