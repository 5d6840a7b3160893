-- Digits are text, and are parsed.
use Rattle.std.proofs.Common.{◌≡◌, ℕ, List, Bor, Result, Ok, Err, Option, None, IfSome, MatchResult, arith, sym, subst, ◌∙◌}
use Rattle.std.specs.Result.{result_ok}
use Rattle.service.proofs.NumberLemmas.{number_of-no_text, number_parsed}
use Rattle.service.proofs.words.number.Goals as goal

same_bytes : {E : Type 0} (P : Type 0) (Q : E → Type 0) (bytes : List ℕ) (r : Result (Bor (List ℕ)) E) →
    MatchResult r (λ s. (s.now ≡ bytes) × P) Q → IfSome (result_ok r) (λ s. s.now ≡ bytes)
same_bytes P Q bytes (Ok s) (same, _) = same
same_bytes P Q bytes (Err _) why = tt

never_text : {T E : Type 0} (P : Type 0) (Q : T → Type 0) (R : E → Type 0) (r : Result T E) →
    MatchResult r Q (λ e. (P → ⊥) × R e) → ◌≡◌ {A = Option T} None (result_ok r) → P → ⊥
never_text P Q R (Ok _) found clash p = cc
never_text P Q R (Err _) (never, _) is p = never p

pub returns : goal.returns
returns c =
    let text = c.args.text.now in
    let same = subst (λ o. IfSome o (λ s. s.now ≡ text)) (sym c.in_ok-ok.ensures.value) (same_bytes _ _ text c.from_utf8.result c.from_utf8.ensures.cases) in
    c.ok-2.ensures.value ∙ number_parsed text c.parse.result (omega arith) (omega arith) (rw same at c.parse.ensures.value.0)

pub returns-in_err-ok : goal.returns-in_err-ok
returns-in_err-ok c =
    c.from_residual.ensures ∙ number_of-no_text c.args.text.now (never_text _ _ _ c.from_utf8.result c.from_utf8.ensures.cases c.in_err-ok.ensures.value)
