-- What was looked up and isn't there is refused as was said.
use Rattle.std.proofs.Common.{◌≡◌, Option, None, Err, Result, subst}
use Rattle.std.specs.Option.{ok_or}

pub refused_as : {T E : Type 0} {o : Option T} {e f : E} → ◌≡◌ {A = Result T E} (Err f) (ok_or o e) → o ≡ None → f ≡ e
refused_as {T} {E} {o} {e} {f} value none =
    let is : ◌≡◌ {A = Result T E} (Err f) (Err e) = subst (λ (p : Option T). ◌≡◌ {A = Result T E} (Err f) (ok_or p e)) none value in cc
