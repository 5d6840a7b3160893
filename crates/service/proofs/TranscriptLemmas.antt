-- Lemmas on what a script is answered, outcome after outcome.
use Rattle.std.proofs.Common.{◌≡◌, ℕ, List, [], ◌∷◌, ◌++◌, map, refl, sym, ap, ◌∙◌, subst}
use Rattle.std.specs.List.{AllZip}
use Rattle.quotas.specs.Quota.{Quota}
use Rattle.hall.specs.Run.{Told}
use Rattle.hall.specs.Hall.{HallState, account_of, AreDone}
use Rattle.service.specs.declared.conversations.Flow.{Flow}
use Rattle.service.specs.declared.conversations.Flow.TheVariants.{GoesOn}
use Rattle.service.specs.Line.{Line}
use Rattle.service.specs.Outcome.{Outcome, nobody, refused, served, outcome_text, IsOutcome, deed_of, told_in, speaks, ScriptAnswers}
use Rattle.service.specs.Written.{Talks}
use Rattle.service.proofs.OutcomeLemmas.{IsOutcome-same}
use Rattle.service.proofs.SpeakerLemmas.{is_speaker, HasTenants, HasTenants-done, is_speaker-speaks}

-- some deeds, and then some more
done_more : (old mid new : HallState) (told more : List Told) → AreDone old told mid → AreDone mid more new → AreDone old (told ++ more) new
done_more old mid new [] more same done = subst (λ (h : HallState). AreDone h more new) same done
done_more old mid new (t ∷ told) more first done = (first.0, first.1, done_more first.0 mid new told more first.2 done)

told_in-append : (first second : List Outcome) → told_in (first ++ second) ≡ told_in first ++ told_in second
told_in-append [] second = refl
told_in-append (nobody why ∷ more) second = told_in-append more second
told_in-append (refused who why ∷ more) second = told_in-append more second
told_in-append (served who command reply ∷ more) second = ap (λ (l : List Told). record { tenant = who; deed = deed_of command; reply = reply } ∷ l) (told_in-append more second)

-- What was answered from a hall of the roster's tenants on: each line became an outcome, in order; what was told was carried
-- out one after another; and the replies are the outcomes' lines.
pub record AreAnswered (roster : List (List ℕ × Quota)) (old : HallState) (lines : List Line) (replies : List (List ℕ)) (new : HallState) : Type 0 where
  pub outcomes : List Outcome
  pub one_each : AllZip (IsOutcome (is_speaker roster)) lines outcomes
  pub done : AreDone old (told_in outcomes) new
  pub printed : replies ≡ map outcome_text outcomes

abbrev ScriptTalks : HallState × Flow → List Line → List (List ℕ) → HallState × Flow → Type 0
ScriptTalks = Talks ScriptAnswers

pub answered : (roster : List (List ℕ × Quota)) (before after : HallState × Flow) (lines : List Line) (replies : List (List ℕ)) → HasTenants before.0 roster → ScriptTalks before lines replies after → AreAnswered roster before.0 lines replies after.0
answered roster before after [] [] has talks = record { outcomes = []; one_each = tt; done = ap (λ (s : HallState × Flow). s.0) talks; printed = refl }
answered roster before after (line ∷ lines) (reply ∷ replies) has (mid, goes, (first, on), talks) =
    let has_mid = HasTenants-done roster (told_in (first.outcome ∷ [])) before.0 mid.0 has first.done in
    let rest = answered roster mid after lines replies has_mid talks in
    record {
      outcomes = first.outcome ∷ rest.outcomes;
      one_each = (IsOutcome-same (speaks (account_of before.0)) (is_speaker roster) (λ who. sym (is_speaker-speaks roster before.0 who has)) line first.outcome first.allowed, rest.one_each);
      done =
          subst (λ (told : List Told). AreDone before.0 told after.0) (sym (told_in-append (first.outcome ∷ []) rest.outcomes))
          (done_more before.0 mid.0 after.0 (told_in (first.outcome ∷ [])) (told_in rest.outcomes) first.done rest.done);
      printed = ap (λ (text : List ℕ). text ∷ replies) (sym first.text) ∙ ap (λ (texts : List (List ℕ)). outcome_text first.outcome ∷ texts) rest.printed;
    }
answered roster before after [] (reply ∷ replies) has talks = absurd talks
answered roster before after (line ∷ lines) [] has talks = absurd talks

-- no line ends a script
pub never_ends : (before after : HallState × Flow) (lines : List Line) (replies : List (List ℕ)) → before.1 ≡ GoesOn → ScriptTalks before lines replies after → after.1 ≡ GoesOn
never_ends before after [] [] on talks = ap (λ (s : HallState × Flow). s.1) talks ∙ on
never_ends before after (line ∷ lines) (reply ∷ replies) on (mid, goes, first, talks) = never_ends mid after lines replies first.1 talks
never_ends before after [] (reply ∷ replies) on talks = absurd talks
never_ends before after (line ∷ lines) [] on talks = absurd talks
