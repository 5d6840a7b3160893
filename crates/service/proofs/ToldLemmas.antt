-- Lemmas on what a line of a session is answered.
use Rattle.std.proofs.Common.{◌≡◌, ◌∙◌, inl, ℕ, List, ◌∷◌, [], codes, true, refl, sym, ap, subst, Option, None, Some, Result, Ok, Err}
use Rattle.std.specs.Str.{bytes_eq}
use Rattle.std.proofs.lemmas.Slice.Eq.{bytes_eq-Decides}
use Rattle.hall.specs.Fault.{fault_number}
use Rattle.hall.specs.declared.calls.replies.Reply.{Reply}
use Rattle.hall.specs.declared.calls.replies.Reply.TheVariants.{Refused}
use Rattle.pool.specs.declared.faults.DeskFault.{DeskFault}
use Rattle.pool.specs.declared.faults.DeskFault.TheVariants.{Hall}
use Rattle.pool.specs.Passes.{PassState}
use Rattle.pool.specs.Refusals.{desk_number_of}
use Rattle.pool.specs.Served.{IsAnswered}
use Rattle.service.specs.declared.commands.Command.{Command, TheVariants.Request, TheVariants.Wait}
use Rattle.service.specs.declared.refusals.Refusal.{Refusal}
use Rattle.service.specs.Roster.{RosterLine, IsTenant}
use Rattle.service.specs.Command.{form_of}
use Rattle.service.specs.Session.{IsGreeted, IsLetIn, IsCarriedOut, IsSessionReply, Tells, SessionState}
use Rattle.service.specs.Reply.{line_after, error_text, IsFilled}
use Rattle.service.specs.Words.{words}
use Rattle.service.proofs.ReplyLemmas.{one_line}

-- words that pass the test are the same
bytes_same : (one other : List ℕ) → bytes_eq one other ≡ true → one ≡ other
bytes_same one other is = (bytes_eq-Decides one other).0 is

-- a tenant said hello by its word
pub IsGreeted-tenant : (rows : List RosterLine) (line first name word who : List ℕ) (others : List (List ℕ)) → words line ≡ first ∷ others → true ≡ bytes_eq first (codes "hello") →
    others ≡ name ∷ word ∷ [] → IsTenant rows name word → who ≡ name → IsGreeted rows (words line) (Ok who)
IsGreeted-tenant rows line first name word who others are hello two tenant named = (
  word,
  are ∙ ap (λ (w : List ℕ). w ∷ others) (bytes_same first (codes "hello") (sym hello)) ∙ ap (λ (ws : List (List ℕ)). codes "hello" ∷ ws) (two ∙ ap (λ (n : List ℕ). n ∷ word ∷ []) (sym named)),
  subst (λ (n : List ℕ). IsTenant rows n word) (sym named) tenant,
)

-- no pass is there
pub no_pass : (pass : Option PassState) → ((held : PassState) → pass ≡ Some held → ⊥) → pass ≡ None
no_pass (Some held) none = absurd (none held refl)
no_pass None none = refl

-- a session that holds this pass
pub Tells-held : (before : SessionState) (rows : List RosterLine) (pass next : PassState) (line reply : List ℕ) → record { rows = rows; pass = Some pass } ≡ before →
    IsSessionReply pass (form_of line) reply next → (rows ≡ before.rows) × Tells before.rows before.pass line reply (Some next)
Tells-held before rows pass next line reply was told =
    (ap (λ (s : SessionState). s.rows) was, subst (λ (s : SessionState). Tells s.rows s.pass line reply (Some next)) was told)

-- one that holds none yet
pub Tells-new : (before : SessionState) (rows : List RosterLine) (pass next : Option PassState) (line reply : List ℕ) (greeted : Result (List ℕ) Refusal) →
    record { rows = rows; pass = pass } ≡ before → pass ≡ None → IsGreeted rows (words line) greeted → IsLetIn greeted reply next →
    (rows ≡ before.rows) × Tells before.rows before.pass line reply next
Tells-new before rows (Some held) next line reply greeted was none is let_in = absurd (cc)
Tells-new before rows None next line reply greeted was none is let_in =
    (ap (λ (s : SessionState). s.rows) was, subst (λ (s : SessionState). Tells s.rows s.pass line reply next) was (greeted, is, let_in))

-- a refusal of the desk is the hall's, and its line is that of a refusal
pub filled_refusal : (before after : PassState) (command : Command) (fault : DeskFault) (reply : List ℕ) → IsCarriedOut before after command (Err fault) →
    reply ≡ line_after [] (error_text (desk_number_of fault)) → IsAnswered (λ (r : Reply). r) (λ due. IsFilled [] due reply) (Err fault)
filled_refusal before after command (Hall f) reply done line = inl (line ∙ one_line [] (error_text (fault_number f)) (Refused f) refl)
filled_refusal before after (Request q) fault reply done line = absurd done
filled_refusal before after (Wait k) fault reply done line = absurd done.0
