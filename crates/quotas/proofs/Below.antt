-- A count that is below its limit.
use Rattle.std.proofs.Common.{ℕ, ◌<◌, ◌≤◌, ◌↔◌, Result, Ok, Err, IsOk, OnOk, refl, arith}

-- it is below what the limit is at most
pub below_most : {T E : Type 0} (r : Result T E) (count limit most : ℕ) → (IsOk r ↔ (count < limit)) → limit ≤ most
    → OnOk r (count < most)
below_most (Ok x) count limit most ok few = let below : count < limit = ok.0 refl in omega arith
below_most (Err e) count limit most ok few = tt
