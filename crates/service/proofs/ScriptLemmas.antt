-- Lemmas on what a script wrote.
use Rattle.std.proofs.Common.{◌≡◌, ◌⊎◌, ℕ, List, refl, inl, inr, map, subst, subst₂, Result, Ok, Err}
use Rattle.hall.specs.Hall.{HallState, new_hall}
use Rattle.hall.proofs.laws.ExactRuns.{scripts_exact}
use Rattle.service.specs.declared.faults.ScriptFault.{ScriptFault}
use Rattle.service.specs.declared.conversations.Flow.{Flow}
use Rattle.service.specs.declared.conversations.Flow.TheVariants.{GoesOn, Ends}
use Rattle.service.specs.declared.conversations.SessionEnd.{SessionEnd}
use Rattle.service.specs.declared.conversations.SessionEnd.TheVariants as end
use Rattle.service.specs.Line.{Line, commands_of}
use Rattle.service.specs.LineReader.{Source, IfKnown}
use Rattle.service.specs.Outcome.{outcome_text, told_in, ScriptAnswers}
use Rattle.service.specs.Written.{WentOut, Conversed, ScriptRun, OpensWith, end_of, ScriptWrote}
use Rattle.service.specs.Roster.{RosterLine, tenant_of, HasRoster, ReadsRoster}
use Rattle.service.proofs.LinesLemmas.{IfKnown-map}
use Rattle.service.proofs.SpeakerLemmas.{HasTenants-new}
use Rattle.service.proofs.TranscriptLemmas.{answered, never_ends}

-- a conversation with the hall of a roster is a run
ran : (lines commands : List Line) (rows : List RosterLine) (after : HallState) (how : SessionEnd) (out : List ℕ → Type 0) → HasRoster lines rows commands →
    Conversed ScriptAnswers (new_hall (map tenant_of rows)) after commands how out → (run : ScriptRun lines) × WentOut how GoesOn run.rest (map outcome_text run.outcomes) out
ran lines commands rows after how out roster talk =
    let tenants = map tenant_of rows in
    let all = answered tenants (new_hall tenants, GoesOn) (after, talk.flow) talk.done talk.replies (HasTenants-new tenants) talk.talks in (
      record {
        rows = rows;
        lines = talk.done;
        rest = talk.rest;
        outcomes = all.outcomes;
        roster = subst (HasRoster lines rows) talk.split roster;
        one_each = all.one_each;
        exact = scripts_exact tenants after (told_in all.outcomes) all.done;
      },
      subst₂ (λ (flow : Flow) (replies : List (List ℕ)). WentOut how flow talk.rest replies out)
          (never_ends (new_hall tenants, GoesOn) (after, talk.flow) talk.done talk.replies refl talk.talks) all.printed talk.out,
    )

-- and that is what the script wrote
wrote : (lines : List Line) (how : SessionEnd) (result : Result (Unit {0}) ScriptFault) (out : List ℕ → Type 0) → (how ≡ end.Quit) ⊎ (how ≡ end_of result) →
    (run : ScriptRun lines) × WentOut how GoesOn run.rest (map outcome_text run.outcomes) out → ScriptWrote lines result out
wrote lines how result out (inl quit) (run, went) =
    let gone = subst (λ (e : SessionEnd). WentOut e GoesOn run.rest (map outcome_text run.outcomes) out) quit went in
    let goes : GoesOn ≡ Ends = gone.0 in absurd (cc)
wrote lines how result out (inr is) (run, went) = inr (run, subst (λ (e : SessionEnd). WentOut e GoesOn run.rest (map outcome_text run.outcomes) out) is went)

-- the roster, and then its commands
pub ScriptWrote-after_roster : (source mid : Source) (rows : List RosterLine) (after : HallState) (how : SessionEnd) (result : Result (Unit {0}) ScriptFault) (out : List ℕ → Type 0) →
    IfKnown source (λ lines. ReadsRoster lines (Ok rows) mid) → IfKnown mid (λ lines. Conversed ScriptAnswers (new_hall (map tenant_of rows)) after lines how out) →
    (how ≡ end.Quit) ⊎ (how ≡ end_of result) → IfKnown source (λ lines. ScriptWrote lines result out)
ScriptWrote-after_roster source mid rows after how result out roster talk is =
    IfKnown-map source roster
    (λ lines reads.
    wrote lines how result out is
    (ran lines _ rows after how out reads.2 (subst (λ (s : Source). IfKnown s (λ commands. Conversed ScriptAnswers (new_hall (map tenant_of rows)) after commands how out)) reads.1 talk)))

-- what was taken of the lines is what they begin with
pub OpensWith-taken : (lines : List Line) (result : Result (List RosterLine) ScriptFault) (new : Source) (out : List ℕ → Type 0) → OpensWith (λ rows. ReadsRoster lines (Ok rows) new) lines result out →
    OpensWith (λ rows. (rest : List Line) × HasRoster lines rows rest) lines result out
OpensWith-taken lines (Ok rows) new out (rest, left, has) = (commands_of rest, has)
OpensWith-taken lines (Err why) new out faulty = faulty
