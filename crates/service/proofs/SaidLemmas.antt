-- Lemmas on what a tenant said.
use Rattle.std.proofs.Common.{◌≡◌, ◌⊎◌, inl, inr, ℕ, List, ◌++◌, codes, refl, sym, Ok, Err}
use Rattle.hall.specs.declared.faults.Fault.TheVariants.{Memory}
use Rattle.hall.specs.declared.calls.replies.Reply.TheVariants.{Refused}
use Rattle.hall.specs.declared.calls.replies.Reply.{Reply}
use Rattle.hall.specs.Hall.{HallState, CarriesOut}
use Rattle.service.specs.declared.commands.Command.{Command}
use Rattle.service.specs.declared.refusals.Refusal.{Refusal}
use Rattle.service.specs.Command.{Form, Reads}
use Rattle.service.specs.Outcome.{refused, served, IsSaid, deed_of, Becomes}
use Rattle.service.specs.Refusal.{refusal_number}
use Rattle.service.specs.Reply.{line_after, error_text, lines_after, IsLong, IsFilled}
use Rattle.service.proofs.PrintedLemmas.{printed_done}

-- a command that was read and carried out
pub Becomes-served : (old new : HallState) (who : List ℕ) (form : Form) (command : Command) (told : Reply) (bytes : List ℕ) → Reads form (Ok command) →
    CarriesOut old who (deed_of command) told new → IsFilled (who ++ codes ": ") told bytes → Becomes old (IsSaid who form) bytes new
Becomes-served old new who form command told bytes read done = by
  where
    becomes : (printed : Reply) → (printed ≡ told) ⊎ (IsLong told × (printed ≡ Refused Memory)) → bytes ≡ lines_after (who ++ codes ": ") printed →
        Becomes old (IsSaid who form) bytes new
    becomes printed is lines = record {
      outcome = served who command printed;
      allowed = (refl, read);
      done = (new, printed_done old new who (deed_of command) told printed done is, refl);
      text = sym lines;
    }

    by : IsFilled (who ++ codes ": ") told bytes → Becomes old (IsSaid who form) bytes new
    by (inl lines) = becomes told (inl refl) lines
    by (inr (long, lines)) = becomes (Refused Memory) (inr (long, refl)) lines

-- a command that its text refuses
pub Becomes-refused : (old : HallState) (who : List ℕ) (form : Form) (why : Refusal) (bytes : List ℕ) → Reads form (Err why) → bytes ≡ line_after (who ++ codes ": ") (error_text (refusal_number why)) → Becomes old (IsSaid who form) bytes old
Becomes-refused old who form why bytes read line = record { outcome = refused who why; allowed = (refl, read); done = refl; text = sym line }
