-- What holds anyhow holds of a call that did well, and of one that failed.
use mathlib.Core.Bool.{beq}
use Rattle.std.proofs.Common.{Bool, true, false, ◌≡◌, Result, Ok, Err, OnOk, OnErr, is_err, sym}

pub on_ok : {T E P : Type 0} (r : Result T E) → P → OnOk r P
on_ok (Ok x) p = p
on_ok (Err e) p = tt

pub on_err : {T E P : Type 0} (r : Result T E) → P → OnErr r P
on_err (Ok x) p = tt
on_err (Err e) p = p

-- where a call failed just where the flag is set, what an unset flag says is for one that did well, and what a set one says is for one that failed
pub where_same : {T E K S : Type 0} (r : Result T E) (failed given flag : Bool) → failed ≡ is_err r → given ≡ flag → beq failed given ≡ true →
    (flag ≡ false → K) → (flag ≡ true → S) → OnOk r K × OnErr r S
where_same (Ok x) false false flag is_failed is_given same unset set = (unset (sym is_given), tt)
where_same (Ok x) false true flag is_failed is_given same unset set = cc
where_same (Ok x) true given flag is_failed is_given same unset set = cc
where_same (Err e) true true flag is_failed is_given same unset set = (tt, set (sym is_given))
where_same (Err e) true false flag is_failed is_given same unset set = cc
where_same (Err e) false given flag is_failed is_given same unset set = cc

-- and the other way round where it failed just where the flag is unset
pub where_apart : {T E K S : Type 0} (r : Result T E) (failed given flag : Bool) → failed ≡ is_err r → given ≡ flag → beq failed given ≡ false →
    (flag ≡ true → K) → (flag ≡ false → S) → OnOk r K × OnErr r S
where_apart (Ok x) false true flag is_failed is_given apart set unset = (set (sym is_given), tt)
where_apart (Ok x) false false flag is_failed is_given apart set unset = cc
where_apart (Ok x) true given flag is_failed is_given apart set unset = cc
where_apart (Err e) true false flag is_failed is_given apart set unset = (tt, unset (sym is_given))
where_apart (Err e) true true flag is_failed is_given apart set unset = cc
where_apart (Err e) false given flag is_failed is_given apart set unset = cc
