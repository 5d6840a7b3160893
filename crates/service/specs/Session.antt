-- What a session is answered, line by line.
use Rattle.std.specs.Prelude.{◌≡◌, ◌≢◌, ℕ, List, [], ◌∷◌, ◌++◌, length, codes, Option, Some, None, IfSome, Result, Ok, Err}
use Rattle.quotas.specs.Quota.{Quota}
use Rattle.hall.specs.declared.calls.replies.Reply.{Reply, TheVariants.Answered}
use Rattle.pool.specs.declared.{faults.DeskFault.DeskFault, verdicts.Verdict.Verdict}
use Rattle.pool.specs.Histories.{own_of, IsLegal}
use Rattle.pool.specs.Passes.{PassState}
use Rattle.pool.specs.Served.{IsTold, IsAnswered, IsWaited}
use Rattle.service.specs.declared.commands.Command.{Command, TheVariants.Request, TheVariants.Wait}
use Rattle.service.specs.declared.conversations.Flow.{Flow, TheVariants.GoesOn, TheVariants.Ends}
use Rattle.service.specs.declared.conversations.SessionEnd.{SessionEnd, TheVariants.Memory}
use Rattle.service.specs.declared.refusals.Refusal.{Refusal}
use Rattle.service.specs.declared.refusals.Refusal.TheVariants as refusal
use Rattle.service.specs.Command.{Form, form_of, Reads}
use Rattle.service.specs.Line.{Line, text, too_long, not_ascii}
use Rattle.service.specs.Refusal.{refusal_number}
use Rattle.service.specs.Reply.{line_after, refusal_line, IsFilled}
use Rattle.service.specs.Roster.{RosterLine, IsTenant}
use Rattle.service.specs.Words.{words}
use Rattle.service.specs.Written.{Conversed}

-- The desk was called by this pass for just this command, and answered so: a request by one call, and a wait by one that waits.
abbrev pub IsCarriedOut : PassState → PassState → Command → Result Reply DeskFault → Type 0
IsCarriedOut before after (Request q) told = IsAnswered (λ r. r) (IsTold before after q) told
IsCarriedOut before after (Wait k) (Ok told) = (v : Verdict) × IsWaited before after k (Ok v) × (told ≡ Answered v.answer)
IsCarriedOut before after (Wait k) (Err fault) = IsWaited before after k (Err fault)

-- A tenant's command is refused by its text alone, and its pass stays as it was; or it is told what the desk came to.
pub data IsSessionReply (before : PassState) (form : Form) (reply : List ℕ) (after : PassState) : Type 0 where
  refused : (why : Refusal) → Reads form (Err why) → reply ≡ refusal_line [] (refusal_number why) →
      after ≡ before → IsSessionReply before form reply after
  carried_out : (command : Command) (told : Result Reply DeskFault) → Reads form (Ok command) →
      IsCarriedOut before after command told → IsAnswered (λ r. r) (λ due. IsFilled [] due reply) told →
      IsSessionReply before form reply after

-- The tenant whose word it says is greeted. Any other hello has the one answer, and nothing but a hello greets anyone.
abbrev pub IsGreeted : List RosterLine → List (List ℕ) → Result (List ℕ) Refusal → Type 0
IsGreeted rows said (Ok who) = (word : List ℕ) × (said ≡ codes "hello" ∷ who ∷ word ∷ []) × IsTenant rows who word
IsGreeted rows said (Err refusal.BadHello) =
    (name : List ℕ) × (word : List ℕ) × (said ≡ codes "hello" ∷ name ∷ word ∷ []) × (IsTenant rows name word → ⊥)
IsGreeted rows said (Err refusal.Command) = (others : List (List ℕ)) × (said ≡ codes "hello" ∷ others) × (length others ≢ 2)
IsGreeted rows said (Err refusal.NoHello) = (others : List (List ℕ)) → said ≢ codes "hello" ∷ others
IsGreeted rows said (Err _) = ⊥

-- Who is greeted is let in by a pass of its own, which has made no call, unless memory lacks for that. Nobody else is.
abbrev pub IsLetIn : Result (List ℕ) Refusal → List ℕ → Option PassState → Type 0
IsLetIn (Ok who) reply (Some pass) =
    (reply ≡ line_after [] (codes "hello " ++ who)) × (pass.tenant ≡ who) × (own_of pass.name pass.seen ≡ [])
IsLetIn (Ok who) reply None = reply ≡ refusal_line [] 90
IsLetIn (Err why) reply (Some pass) = ⊥
IsLetIn (Err why) reply None = reply ≡ refusal_line [] (refusal_number why)

-- What a line is told that doesn't end the session: to one who hasn't said who it is, with a pass if let in; or by the pass that it has.
abbrev pub Tells : List RosterLine → Option PassState → List ℕ → List ℕ → Option PassState → Type 0
Tells rows None line reply after =
    (greeted : Result (List ℕ) Refusal) × IsGreeted rows (words line) greeted × IsLetIn greeted reply after
Tells rows (Some before) line reply (Some after) = IsSessionReply before (form_of line) reply after
Tells rows (Some before) line reply None = ⊥

-- a session: who may speak, and the pass of the tenant that has said who it is
pub record SessionState : Type 0 where
  pub rows : List RosterLine
  pub pass : Option PassState

-- how a session's line is answered at a desk of these tenants: what its pass has seen is a legal history of theirs
abbrev pub SessionAnswers : List (List ℕ × Quota) → SessionState → Line → List ℕ → Flow → SessionState → Type 0
SessionAnswers roster before too_long reply flow after = (reply ≡ refusal_line [] 65) × (flow ≡ GoesOn) × (after ≡ before)
SessionAnswers roster before not_ascii reply flow after = (reply ≡ refusal_line [] 66) × (flow ≡ GoesOn) × (after ≡ before)
SessionAnswers roster before (text line) reply Ends after =
    (words line ≡ codes "quit" ∷ []) × (reply ≡ line_after [] (codes "bye")) × (after ≡ before)
SessionAnswers roster before (text line) reply GoesOn after =
    (words line ≢ codes "quit" ∷ []) × (after.rows ≡ before.rows) × Tells before.rows before.pass line reply after.pass
    × IfSome after.pass (λ p. IsLegal roster p.seen)

-- What went out of a session, by its lines that are not blank, its end and its pass then. Want of memory comes before anything is written.
abbrev pub SessionWrote :
    List (List ℕ × Quota) → List RosterLine → List Line → SessionEnd → Option PassState → (List ℕ → Type 0) → Type 0
SessionWrote roster rows lines Memory pass went_out = went_out [] × (pass ≡ None)
SessionWrote roster rows lines end pass went_out = Conversed (SessionAnswers roster)
    (record { rows = rows; pass = None }) (record { rows = rows; pass = pass }) lines end went_out
