-- What was written first is kept.
use Rattle.std.proofs.Common.{ℕ, List, [], ◌∷◌, ◌++◌, ◌≤◌, ◌≡◌, sym, ap, ◌∙◌, refl, length, take, arith, append-nil, append_assoc, Result, Ok, Err, OnOk, IsErr, is_ok, if◌then◌else◌}
use Rattle.std.proofs.lemmas.Result.{IfOk-from_err}
use Rattle.std.proofs.lemmas.List.{take-take, take_at, length-take}

-- what was there stays at the front
abbrev pub Keeps : List ℕ → List ℕ → Type 0
Keeps old new = take (length old) new ≡ old

pub keeps-append : (old more : List ℕ) → Keeps old (old ++ more)
keeps-append old more = take_at old more (length old) refl

pub keeps_through : (old mid new : List ℕ) → Keeps old mid → Keeps mid new → Keeps old new
keeps_through old mid new first second =
    let within : length old ≤ length mid = omega (arith, ap length first, length-take (length old) mid) in
    sym (take-take (length old) (length mid) new within) ∙ ap (take (length old)) second ∙ first

pub keeps_more : (old mid new more : List ℕ) → mid ≡ old ++ more → Keeps mid new → Keeps old new
keeps_more old mid new more is second = keeps_through old mid new (ap (take (length old)) is ∙ keeps-append old more) second

pub keeps_same : (old new : List ℕ) → new ≡ old → Keeps old new
keeps_same old new same = ap (take (length old)) (same ∙ sym (append-nil old)) ∙ keeps-append old []

-- an error says nothing of what was written
pub nothing_written : {T E : Type 0} (r : Result T E) (P : Type 0) → IsErr r → OnOk r P
nothing_written r P failed = IfOk-from_err r (λ _. P) failed

-- a last write, which appends or fails
pub written_last : {T E : Type 0} (r : Result T E) (mid more new whole : List ℕ) → new ≡ if is_ok r then mid ++ more else mid → mid ++ more ≡ whole → OnOk r (new ≡ whole)
written_last (Ok x) mid more new whole now is = now ∙ is
written_last (Err e) mid more new whole now is = tt

pub keeps_last : {T E : Type 0} (r : Result T E) (mid more new : List ℕ) → new ≡ if is_ok r then mid ++ more else mid → Keeps mid new
keeps_last (Ok x) mid more new now = ap (take (length mid)) now ∙ keeps-append mid more
keeps_last (Err e) mid more new now = keeps_same mid new now

-- what holds anyhow holds where there is no error
pub on_ok : {T E : Type 0} (r : Result T E) (P : Type 0) → P → OnOk r P
on_ok (Ok x) P p = p
on_ok (Err e) P p = tt

-- what two facts give, where there is no error
pub on_ok_both : {T E : Type 0} (r : Result T E) (P Q R : Type 0) → (P → Q → R) → OnOk r P → OnOk r Q → OnOk r R
on_ok_both (Ok x) P Q R both p q = both p q
on_ok_both (Err e) P Q R both p q = tt

-- a text, a byte and a text behind what was written
pub written_around : (old first more last : List ℕ) (byte : ℕ) (mid : List ℕ) → mid ≡ old ++ first → more ≡ mid ++ byte ∷ []
    → more ++ last ≡ old ++ (first ++ byte ∷ last)
written_around old first more last byte mid begun grown =
    ap (λ t. t ++ last) (grown ∙ ap (λ t. t ++ byte ∷ []) begun) ∙ append_assoc (old ++ first) (byte ∷ []) last
    ∙ append_assoc old first (byte ∷ last)
