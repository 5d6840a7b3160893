-- What a conversation is answered, line by line, and what of it and of a script went out. A host's answers say of each line how it
-- may be answered: what the host was, the line, the reply, whether it goes on, and what the host is then.
use Rattle.std.specs.Prelude.{◌≡◌, ◌⊎◌, ℕ, ◌<◌, List, [], ◌∷◌, ◌++◌, length, map, Option, Result, Ok, Err, IsErrAnd}
use Rattle.std.specs.{List.concat, List.AllZip, Io.KnownBytes.Appends}
use Rattle.hall.specs.Answers.{start_of}
use Rattle.hall.specs.Run.{AreRuns, at_waits}
use Rattle.service.specs.declared.conversations.{Flow.Flow, Flow.TheVariants.GoesOn, Flow.TheVariants.Ends, SessionEnd.SessionEnd}
use Rattle.service.specs.declared.conversations.SessionEnd.TheVariants as end
use Rattle.service.specs.declared.faults.ScriptFault.{ScriptFault, TheVariants.Roster, TheVariants.Read, TheVariants.Write}
use Rattle.service.specs.declared.speakers.Speaker.TheVariants.{Nobody}
use Rattle.service.specs.Line.{Line}
use Rattle.service.specs.Reply.{front_of, refusal_line}
use Rattle.service.specs.Roster.{RosterLine, tenant_of, HasRoster, HasNoRoster}
use Rattle.service.specs.Outcome.{Outcome, outcome_text, IsOutcome, speaks, told_in}

-- a front of the text went out, and not all of it
pub record WroteFront (reply : List ℕ) (went_out : List ℕ → Type 0) : Type 0 where
  pub front : List ℕ
  pub back : List ℕ
  pub parts : reply ≡ front ++ back
  pub missing : 0 < length back
  pub out : went_out front

-- of this text a front went out, and the rest waits
abbrev pub SendsUpTo : Option (List ℕ) → Option (List ℕ) → List ℕ → List ℕ → Type 0
SendsUpTo old new said waits = (sent : List ℕ) × (said ≡ sent ++ waits) × Appends old new sent

-- How a conversation ended after these replies, with these lines left, and what went out: all replies, up to the one that ended
-- it, to all lines, or to those that could be read; or where a write failed a front of them.
abbrev pub WentOut : SessionEnd → Flow → List Line → List (List ℕ) → (List ℕ → Type 0) → Type 0
WentOut end.Quit flow rest replies went_out = (flow ≡ Ends) × went_out (concat replies)
WentOut end.EndOfInput flow rest replies went_out = (flow ≡ GoesOn) × (rest ≡ []) × went_out (concat replies)
WentOut end.Read flow rest replies went_out = (flow ≡ GoesOn) × went_out (concat replies)
WentOut end.Write flow rest replies went_out = WroteFront (concat replies) went_out
WentOut end.Memory flow rest replies went_out = ⊥

-- each line has one reply, in order; the host goes on after all but perhaps the last
abbrev pub Talks : {S : Type 0} → (S → Line → List ℕ → Flow → S → Type 0) →
    S × Flow → List Line → List (List ℕ) → S × Flow → Type 0
Talks Answers before [] [] after = after ≡ before
Talks Answers before (line ∷ lines) (reply ∷ replies) after = (mid : _ × Flow) × (before.1 ≡ GoesOn)
    × Answers before.0 line reply mid.1 mid.0 × Talks Answers mid lines replies after
Talks Answers before _ _ after = ⊥

-- the first of these lines were answered by a host that was the one before and is the other after them, and what went out of the
-- replies, by how it all ended
pub record Conversed {S : Type 0} (Answers : S → Line → List ℕ → Flow → S → Type 0) (before after : S)
    (lines : List Line) (end : SessionEnd) (went_out : List ℕ → Type 0) : Type 0 where
  pub done : List Line
  pub rest : List Line
  pub split : lines ≡ done ++ rest
  pub replies : List (List ℕ)
  pub flow : Flow
  pub talks : Talks Answers (before, GoesOn) done replies (after, flow)
  pub out : WentOut end flow rest replies went_out

-- A script that begins with a roster, as it was answered: all lines behind that, or where a device failed the first of them. Each
-- line became an outcome, in order; and to each tenant what it was told is exact, by its own account and view alone.
pub record ScriptRun (input : List Line) : Type 0 where
  pub rows : List RosterLine
  pub lines : List Line
  pub rest : List Line
  pub outcomes : List Outcome
  pub roster : HasRoster input rows (lines ++ rest)
  pub one_each : AllZip (IsOutcome (speaks (λ who. start_of who (map tenant_of rows)))) lines outcomes
  pub exact : AreRuns at_waits (map tenant_of rows) (told_in outcomes)

-- the end of a script's conversation, by how the script ended
abbrev pub end_of : Result (Unit {0}) ScriptFault → SessionEnd
end_of (Ok _) = end.EndOfInput
end_of (Err Read) = end.Read
end_of (Err Write) = end.Write
end_of (Err _) = end.Memory

-- the one line that answers a faulty roster
abbrev pub roster_refusal : List ℕ
roster_refusal = refusal_line (front_of Nobody) 63

-- what a fault of the roster lets out: nothing, unless it is faulty; then the one line, or a front of it
abbrev pub AnswersFault : List Line → ScriptFault → (List ℕ → Type 0) → Type 0
AnswersFault lines Roster went_out = HasNoRoster lines × went_out roster_refusal
AnswersFault lines Write went_out = HasNoRoster lines × WroteFront roster_refusal went_out
AnswersFault lines _ went_out = went_out []

-- the lines open with a roster, of which this holds, or a fault of it was answered
abbrev pub OpensWith : (List RosterLine → Type 0) → List Line → Result (List RosterLine) ScriptFault → (List ℕ → Type 0) → Type 0
OpensWith opened lines (Ok rows) went_out = opened rows
OpensWith opened lines (Err why) went_out = AnswersFault lines why went_out

-- what went out of a script, by its lines that are not blank: what answers a fault of its roster, or a run's texts
abbrev pub ScriptWrote : List Line → Result (Unit {0}) ScriptFault → (List ℕ → Type 0) → Type 0
ScriptWrote lines result went_out = IsErrAnd result (λ why. AnswersFault lines why went_out)
    ⊎ ((run : ScriptRun lines) × WentOut (end_of result) GoesOn run.rest (map outcome_text run.outcomes) went_out)
