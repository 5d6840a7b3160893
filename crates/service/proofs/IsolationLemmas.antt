-- Other tenants change nothing of what is printed for a tenant.
use Rattle.std.proofs.Common.{◌≡◌, ℕ, Bool, true, false, cond, List, [], ◌∷◌, ◌++◌, map, refl, sym, ap, ap₂, ◌∙◌, subst, subst₂, Some, inl, inr}
use Rattle.std.specs.Prelude.{◌&&◌, find, option_map, is_some}
use Rattle.std.specs.List.{AllZip, AllByRecursion, flat_map}
use Rattle.std.proofs.lemmas.Bool.{and_from}
use Rattle.quotas.specs.Quota.{Quota}
use Rattle.names.specs.Name.{is_name, IsName, is_same}
use Rattle.names.proofs.SameNames.{same_from_is_same}
use Rattle.hall.specs.Answers.{Account, new_account, start_of}
use Rattle.hall.specs.Run.{Turn, at_waits}
use Rattle.hall.specs.Run.{Agree}
use Rattle.hall.proofs.laws.Worlds.{scripts_isolated as told_alike}
use Rattle.service.specs.Command.{form_of}
use Rattle.service.specs.Roster.{RosterLine, tenant_of}
use Rattle.service.specs.Line.{Line, text, too_long, not_ascii}
use Rattle.service.specs.Outcome.{Outcome, outcome_text, IsSaid, told_in}
use Rattle.service.specs.Written.{ScriptRun}
use Rattle.service.specs.Laws.{IsSameFor, own_lines, own_outcomes, turns_of, ArePrintedAlike, AreProofs}
use Rattle.service.specs.Laws.{OwnLinesAreAnswered, ScriptsAreIsolated}
use Rattle.service.proofs.RosterLemmas.{HasRows, HasRoster-rows}
use Rattle.service.proofs.SpeakerLemmas.{is_speaker}
use Rattle.service.proofs.OwnLemmas.{own_said, own_none}
use Rattle.service.proofs.AlikeLemmas.{AreOneLine, one_lines, same_turns, replies_agree, printed_alike}

-- the tenants of a roster, as a hall has them
abbrev roster_of : List RosterLine → List (List ℕ × Quota)
roster_of rows = map tenant_of rows

module _ (tenant : List ℕ) (input other : List Line) (one : ScriptRun input) (two : ScriptRun other) (same : IsSameFor tenant one two) where
  speakers : is_speaker (roster_of one.rows) tenant ≡ is_speaker (roster_of two.rows) tenant
  speakers = ap (λ (b : Bool). is_name tenant && b) (ap is_some same.starts)

  -- where the tenant speaks its lines are answered the same but for the replies
  lines_alike : is_speaker (roster_of one.rows) tenant ≡ true → AllZip AreOneLine (own_outcomes tenant one.outcomes) (own_outcomes tenant two.outcomes)
  lines_alike speaks =
      one_lines tenant (own_lines tenant one.lines) (own_outcomes tenant one.outcomes) (own_outcomes tenant two.outcomes)
      (own_said (is_speaker (roster_of one.rows)) tenant speaks one.lines one.outcomes one.one_each)
      (subst (λ (texts : List (List ℕ)). AllZip (λ said outcome. IsSaid tenant (form_of said) outcome) texts (own_outcomes tenant two.outcomes)) (sym same.says)
      (own_said (is_speaker (roster_of two.rows)) tenant (sym speakers ∙ speaks) two.lines two.outcomes two.one_each))
      same.memory.1 same.other_memory.1

  -- and so are these
  replies_alike : AllZip AreOneLine (own_outcomes tenant one.outcomes) (own_outcomes tenant two.outcomes) →
      AllZip (λ (s t : Turn). Agree at_waits s.reply t.reply) (turns_of tenant one.outcomes) (turns_of tenant two.outcomes)
  replies_alike alike =
      told_alike tenant (roster_of one.rows) (roster_of two.rows) (told_in one.outcomes) (told_in two.outcomes) one.exact two.exact
      same.starts
      (same_turns tenant one.outcomes two.outcomes alike same.sees)
      same.memory.0 same.other_memory.0

  isolated_by : (speaks : Bool) → is_speaker (roster_of one.rows) tenant ≡ speaks → AllZip ArePrintedAlike (own_outcomes tenant one.outcomes) (own_outcomes tenant two.outcomes)
  isolated_by true speaks =
      let alike = lines_alike speaks in
      printed_alike (own_outcomes tenant one.outcomes) (own_outcomes tenant two.outcomes) alike
      (replies_agree tenant one.outcomes two.outcomes (replies_alike alike))
  isolated_by false stranger =
      subst₂ (AllZip ArePrintedAlike) (sym (own_none (is_speaker (roster_of one.rows)) tenant stranger one.lines one.outcomes one.one_each))
      (sym (own_none (is_speaker (roster_of two.rows)) tenant (sym speakers ∙ stranger) two.lines two.outcomes two.one_each)) tt

-- each row of a roster has a name
rows_named : (ls : List Line) (rows : List RosterLine) (rest : List Line) → HasRows ls rows rest → AllByRecursion (λ row. IsName row.name) rows
rows_named [] rows rest has = absurd has
rows_named (too_long ∷ ls) rows rest has = absurd has
rows_named (not_ascii ∷ ls) rows rest has = absurd has
rows_named (text line ∷ ls) [] rest has = tt
rows_named (text line ∷ ls) (row ∷ rows) rest has = (has.0.is_name, rows_named ls rows rest has.1)

-- so a tenant of the roster does
listed_named : (tenant : List ℕ) (rows : List RosterLine) (start : Account) → AllByRecursion (λ row. IsName row.name) rows → start_of tenant (roster_of rows) ≡ Some start → IsName tenant
listed_named tenant [] start named is = cc
listed_named tenant (row ∷ rows) start named is = by (is_same row.name tenant) refl is (listed_named tenant rows start named.1)
  where
    by : (own : Bool) → is_same row.name tenant ≡ own →
        option_map (λ (r : List ℕ × Quota). new_account r.1) (cond own (Some (tenant_of row)) (find (λ (r : List ℕ × Quota). is_same r.0 tenant) (roster_of rows))) ≡ Some start →
        (start_of tenant (roster_of rows) ≡ Some start → IsName tenant) → IsName tenant
    by true same there rest = subst IsName (same_from_is_same row.name tenant same) named.0
    by false other there rest = rest there

pub own_lines_answered : OwnLinesAreAnswered
own_lines_answered tenant input run start is =
    let named = listed_named tenant run.rows start (rows_named input run.rows (run.lines ++ run.rest) (HasRoster-rows input run.rows (run.lines ++ run.rest) run.roster)) is in
    own_said (is_speaker (roster_of run.rows)) tenant (and_from (is_name tenant) (is_some (start_of tenant (roster_of run.rows))) named (ap is_some is))
    run.lines run.outcomes run.one_each

texts_same : (first second : List Outcome) → AllZip ArePrintedAlike first second → AllByRecursion (λ (outcome : Outcome). (other : Outcome) → AreProofs outcome other → ⊥) first → flat_map outcome_text first ≡ flat_map outcome_text second
texts_same [] [] alike none = refl
texts_same [] (two ∷ second) alike none = absurd alike
texts_same (one ∷ first) [] alike none = absurd alike
texts_same (one ∷ first) (two ∷ second) alike none = ap₂ (λ (a b : List ℕ). a ++ b) (by alike.0) (texts_same first second alike.1 none.1)
  where
    by : ArePrintedAlike one two → outcome_text one ≡ outcome_text two
    by (inl bytes) = bytes
    by (inr are) = absurd (none.0 two are)

pub scripts_isolated : ScriptsAreIsolated
scripts_isolated tenant input other one two same =
    let alike = isolated_by tenant input other one two same (is_speaker (roster_of one.rows) tenant) refl in
    (alike, texts_same (own_outcomes tenant one.outcomes) (own_outcomes tenant two.outcomes) alike)
