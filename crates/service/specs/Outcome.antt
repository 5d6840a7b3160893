-- What a line of a script is answered, by its text alone, and how a hall answers one.
use Rattle.std.specs.Prelude.{◌≡◌, ℕ, Bool, ◌&&◌, List, [], ◌∷◌, Option, Ok, Err, MatchBool, is_some}
use Rattle.std.specs.List.{list_any, before_first, after_first}
use Rattle.names.specs.Name.{is_name}
use Rattle.hall.specs.declared.calls.replies.Reply.{Reply}
use Rattle.hall.specs.Answers.{Account}
use Rattle.hall.specs.Run.{Deed, asks, waits, Told}
use Rattle.hall.specs.Hall.{HallState, account_of, AreDone}
use Rattle.service.specs.declared.commands.Command.{Command, TheVariants.Request, TheVariants.Wait}
use Rattle.service.specs.declared.{conversations.Flow.Flow, conversations.Flow.TheVariants.GoesOn, refusals.Refusal.Refusal}
use Rattle.service.specs.declared.refusals.Refusal.TheVariants as refusal
use Rattle.service.specs.declared.speakers.Speaker.TheVariants.{Nobody, Tenant}
use Rattle.service.specs.Line.{Line, text, too_long, not_ascii}
use Rattle.service.specs.Words.{is_colon, trim_start}
use Rattle.service.specs.Command.{Form, form_of, Reads}
use Rattle.service.specs.Refusal.{refusal_number}
use Rattle.service.specs.Reply.{front_of, refusal_line, lines_after}

-- what became of a line: it was refused by its text alone, to nobody or to the tenant, or carried out
pub data Outcome : Type 0 where
  nobody : Refusal → Outcome
  refused : List ℕ → Refusal → Outcome
  served : List ℕ → Command → Reply → Outcome

-- the lines that answer it
abbrev pub outcome_text : Outcome → List ℕ
outcome_text (nobody why) = refusal_line (front_of Nobody) (refusal_number why)
outcome_text (refused who why) = refusal_line (front_of (Tenant who)) (refusal_number why)
outcome_text (served who command reply) = lines_after (front_of (Tenant who)) reply

-- what the tenant's command may become
abbrev pub IsSaid : List ℕ → Form → Outcome → Type 0
IsSaid name form (nobody why) = ⊥
IsSaid name form (refused who why) = (who ≡ name) × Reads form (Err why)
IsSaid name form (served who command reply) = (who ≡ name) × Reads form (Ok command)

-- what a line `NAME: COMMAND`, without the spaces in front, may become, by which names speak
abbrev pub IsSpoken : (List ℕ → Bool) → List ℕ → Outcome → Type 0
IsSpoken may_speak line outcome = let who = before_first is_colon line in MatchBool (list_any is_colon line)
    (MatchBool (may_speak who) (IsSaid who (form_of (after_first is_colon line)) outcome) (outcome ≡ nobody refusal.BadHello))
    (outcome ≡ nobody refusal.Command)

-- what a line may become where these names speak
abbrev pub IsOutcome : (List ℕ → Bool) → Line → Outcome → Type 0
IsOutcome may_speak too_long outcome = outcome ≡ nobody refusal.LineLong
IsOutcome may_speak not_ascii outcome = outcome ≡ nobody refusal.NotAscii
IsOutcome may_speak (text t) outcome = IsSpoken may_speak (trim_start t) outcome

-- whether a tenant speaks, by the accounts of tenants: the text is a name, and one has it
abbrev pub speaks : (List ℕ → Option Account) → List ℕ → Bool
speaks accounts who = is_name who && is_some (accounts who)

-- what a command asks for
abbrev pub deed_of : Command → Deed
deed_of (Request q) = asks q
deed_of (Wait number) = waits number

-- what was told, in order: what was refused by its text alone is none of it
abbrev pub told_in : List Outcome → List Told
told_in [] = []
told_in (served who command reply ∷ more) = record { tenant = who; deed = deed_of command; reply = reply } ∷ told_in more
told_in (_ ∷ more) = told_in more

-- an outcome of which this holds was carried out, and the reply is its text
pub record Becomes (old : HallState) (May : Outcome → Type 0) (reply : List ℕ) (new : HallState) : Type 0 where
  pub outcome : Outcome
  pub allowed : May outcome
  pub done : AreDone old (told_in (outcome ∷ [])) new
  pub text : outcome_text outcome ≡ reply

-- how a script's line is answered: the conversation goes on after it
abbrev pub ScriptAnswers : HallState → Line → List ℕ → Flow → HallState → Type 0
ScriptAnswers old line reply flow new = Becomes old (IsOutcome (speaks (account_of old)) line) reply new × (flow ≡ GoesOn)
