-- What a session wrote, by its conversation.
use Rattle.std.proofs.Common.{◌≡◌, ℕ, List, [], ◌∷◌, sym, ap, ◌∙◌, subst, Option, Some, None}
use Rattle.std.specs.Prelude.{IfSome}
use Rattle.quotas.specs.Quota.{Quota}
use Rattle.pool.specs.Passes.{PassState}
use Rattle.service.specs.declared.conversations.Flow.{Flow, TheVariants.GoesOn, TheVariants.Ends}
use Rattle.service.specs.declared.conversations.SessionEnd.{SessionEnd}
use Rattle.service.specs.declared.conversations.SessionEnd.TheVariants as end
use Rattle.service.specs.Line.{Line, text, too_long, not_ascii, commands_of}
use Rattle.service.specs.declared.lines.Stage.TheVariants.{Open}
use Rattle.service.specs.LineReader.{Source, left_at, IfKnown}
use Rattle.service.specs.Roster.{RosterLine}
use Rattle.service.specs.Written.{Talks, Conversed}
use Rattle.service.specs.Session.{SessionState, SessionAnswers, SessionWrote}

module _ (roster : List (List ℕ × Quota)) where
  -- by a line the same may speak
  answers-rows : (before : SessionState) (line : Line) (reply : List ℕ) (flow : Flow) (after : SessionState) → SessionAnswers roster before line reply flow after → after.rows ≡ before.rows
  answers-rows before too_long reply flow after is = ap (λ (s : SessionState). s.rows) is.2
  answers-rows before not_ascii reply flow after is = ap (λ (s : SessionState). s.rows) is.2
  answers-rows before (text line) reply Ends after is = ap (λ (s : SessionState). s.rows) is.2
  answers-rows before (text line) reply GoesOn after is = is.1

  -- and so by all lines
  talks-rows : (before after : SessionState × Flow) (lines : List Line) (replies : List (List ℕ)) → Talks (SessionAnswers roster) before lines replies after → after.0.rows ≡ before.0.rows
  talks-rows before after [] [] talks = ap (λ (s : SessionState × Flow). s.0.rows) talks
  talks-rows before after (line ∷ lines) (reply ∷ replies) (mid, on, is, talks) = talks-rows mid after lines replies talks ∙ answers-rows before.0 line reply mid.1 mid.0 is
  talks-rows before after [] (reply ∷ replies) talks = absurd talks
  talks-rows before after (line ∷ lines) [] talks = absurd talks

module _ (roster : List (List ℕ × Quota)) (rows : List RosterLine) (pass : Option PassState) (out : List ℕ → Type 0) where
  -- these lines were answered, it ended so, and the session was this behind them
  abbrev pub Talked : SessionState → SessionEnd → List Line → Type 0
  Talked after how lines = Conversed (SessionAnswers roster) (record { rows = rows; pass = None }) after lines how out

  -- the session behind its lines
  behind : (after : SessionState) → after.rows ≡ rows → pass ≡ after.pass → after ≡ record { rows = rows; pass = pass }
  behind after same its =
      ap (λ (r : List RosterLine). record { rows = r; pass = after.pass }) same ∙ ap (λ (p : Option PassState). record { rows = rows; pass = p }) (sym its)

  SessionWrote-talked : (how : SessionEnd) (lines : List Line) → Talked (record { rows = rows; pass = pass }) how lines → SessionWrote roster rows lines how pass out
  SessionWrote-talked end.Quit lines wrote = wrote
  SessionWrote-talked end.EndOfInput lines wrote = wrote
  SessionWrote-talked end.Read lines wrote = wrote
  SessionWrote-talked end.Write lines wrote = wrote
  SessionWrote-talked end.Memory lines wrote = absurd wrote.out

  wrote : (after : SessionState) (how : SessionEnd) (lines : List Line) → pass ≡ after.pass → Talked after how lines → SessionWrote roster rows lines how pass out
  wrote after how lines its talked =
      let first : SessionState = record { rows = rows; pass = None } in
      let same = talks-rows roster (first, GoesOn) (after, talked.flow) talked.done talked.replies talked.talks in
      SessionWrote-talked how lines (subst (λ (s : SessionState). Talked s how lines) (behind after same its) talked)

  pub SessionWrote-known : (remaining : Option (List ℕ)) (source : Source) (how : SessionEnd) (after : SessionState) → source ≡ left_at Open remaining → pass ≡ after.pass →
      IfKnown source (λ lines. Talked after how lines) → IfSome remaining (λ input. SessionWrote roster rows (commands_of input) how pass out)
  SessionWrote-known None source how after made its talked = tt
  SessionWrote-known (Some bytes) source how after made its talked =
      wrote after how (commands_of bytes) its (subst (λ (s : Source). IfKnown s (λ lines. Talked after how lines)) made talked)
