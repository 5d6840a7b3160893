-- Lemmas on what a line may become.
use Rattle.std.proofs.Common.{◌≡◌, ℕ, Bool, true, false, List, codes, sym, refl, subst}
use Rattle.std.specs.Prelude.{MatchBool}
use Rattle.std.specs.List.{list_any, before_first, after_first}
use Rattle.hall.specs.Hall.{HallState, account_of}
use Rattle.service.specs.declared.refusals.Refusal.TheVariants as refusal
use Rattle.service.specs.Line.{Line, text, too_long, not_ascii}
use Rattle.service.specs.Words.{is_colon, trim_start}
use Rattle.service.specs.Command.{form_of}
use Rattle.service.specs.Refusal.{refusal_number}
use Rattle.service.specs.Reply.{refusal_line}
use Rattle.service.specs.Outcome.{Outcome, nobody, IsSaid, IsOutcome, speaks, Becomes}

-- a line without a colon
pub IsOutcome-no_colon : (speak : List ℕ → Bool) (line : List ℕ) → list_any is_colon (trim_start line) ≡ false → IsOutcome speak (text line) (nobody refusal.Command)
IsOutcome-no_colon speak line none = rw none refl

-- a line of another than the tenants
pub IsOutcome-stranger : (speak : List ℕ → Bool) (line before : List ℕ) → list_any is_colon (trim_start line) ≡ true → before ≡ before_first is_colon (trim_start line) →
    speak before ≡ false → IsOutcome speak (text line) (nobody refusal.BadHello)
IsOutcome-stranger speak line before colon at none = rw (colon, sym at, none) refl

-- a line of a tenant
pub IsOutcome-tenant : (speak : List ℕ → Bool) (line before said who : List ℕ) (outcome : Outcome) → list_any is_colon (trim_start line) ≡ true → before ≡ before_first is_colon (trim_start line) →
    said ≡ after_first is_colon (trim_start line) → (who ≡ before) × (speak before ≡ true) → IsSaid who (form_of said) outcome → IsOutcome speak (text line) outcome
IsOutcome-tenant speak line before said who outcome colon at rest found said_so =
    rw (colon, sym at, sym rest, found.1) (subst (λ (name : List ℕ). IsSaid name (form_of said) outcome) found.0 said_so)

-- a line becomes the same where the same names speak
pub IsOutcome-same : (one other : List ℕ → Bool) → ((who : List ℕ) → one who ≡ other who) → (line : Line) (outcome : Outcome) → IsOutcome one line outcome → IsOutcome other line outcome
IsOutcome-same one other same too_long outcome is = is
IsOutcome-same one other same not_ascii outcome is = is
IsOutcome-same one other same (text t) outcome is =
    let line = trim_start t in
    let who = before_first is_colon line in
    subst (λ (b : Bool). MatchBool (list_any is_colon line) (MatchBool b (IsSaid who (form_of (after_first is_colon line)) outcome) (outcome ≡ nobody refusal.BadHello)) (outcome ≡ nobody refusal.Command))
    (same who) is

-- a line that is no text
pub long_answered : (hall : HallState) (reply : List ℕ) → reply ≡ refusal_line (codes "?: ") (refusal_number refusal.LineLong) → Becomes hall (IsOutcome (speaks (account_of hall)) too_long) reply hall
long_answered hall reply is = record { outcome = nobody refusal.LineLong; allowed = refl; done = refl; text = sym is }

pub not_ascii_answered : (hall : HallState) (reply : List ℕ) → reply ≡ refusal_line (codes "?: ") (refusal_number refusal.NotAscii) → Becomes hall (IsOutcome (speaks (account_of hall)) not_ascii) reply hall
not_ascii_answered hall reply is = record { outcome = nobody refusal.NotAscii; allowed = refl; done = refl; text = sym is }
