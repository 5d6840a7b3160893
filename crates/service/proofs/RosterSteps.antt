-- What is known of a roster that is being read, line after line.
use Rattle.std.proofs.Common.{◌≡◌, ◌≢◌, Bor, ℕ, true, false, List, [], ◌∷◌, ◌++◌, refl, ap, ◌∙◌, subst, Ok, Err}
use Rattle.std.specs.Prelude.{⊤, codes, not, filter}
use Rattle.std.specs.List.{list_all}
use Rattle.service.specs.declared.faults.ScriptFault.{ScriptFault}
use Rattle.service.specs.declared.faults.ScriptFault.TheVariants as fault
use Rattle.service.specs.declared.lines.NextLine.{NextLine}
use Rattle.service.specs.declared.lines.NextLine.TheVariants.{Text, Long, NotAscii, End, Fault}
use Rattle.service.specs.Line.{Line, text, too_long, not_ascii, is_blank, lines_of, commands_of}
use Rattle.service.specs.LineReader.{Source, known, unknown, failed, Shows, Gives, IfKnown}
use Rattle.service.specs.Roster.{RosterLine, IsRow, IsRoster, HasNoRoster, ReadsRoster}
use Rattle.service.specs.Words.{is_space, words}
use Rattle.service.proofs.LinesLemmas.{Gives-first, IfKnown-map}
use Rattle.service.proofs.RosterLemmas.{AddsRow, HasRows, HasRoster-rows, LeavesLines, LeavesLines-all, LeavesLines-row, HasNoRoster-refused, HasRoster-read}

-- the first of these lines are the rows, and the others are left
abbrev pub SoFar : List Line → List RosterLine → Source → Type 0
SoFar lines rows left = (rest : List ℕ) × (left ≡ known rest) × LeavesLines lines rows (commands_of rest)

-- at first there are none
pub SoFar-start : (source : Source) → IfKnown source (λ lines. SoFar lines [] source)
SoFar-start (known bytes) = (bytes, refl, LeavesLines-all (commands_of bytes))
SoFar-start unknown = tt
SoFar-start failed = tt

-- those of the lines that are not blank
abbrev not_blank : List Line → List Line
not_blank lines = filter (λ line. not (is_blank line)) lines

-- a line that was given, blank or not, was the first of what was left
given : (mid new : Source) (answer : NextLine) (line : Line) → Gives mid answer new → Shows answer line → IfKnown mid (λ lines. (rest : List ℕ) × (new ≡ known rest) × (lines ≡ not_blank (line ∷ lines_of rest)))
given unknown new answer line gives shows = tt
given failed new answer line gives shows = tt
given (known bytes) new answer line gives shows =
    let first = Gives-first bytes new answer line gives shows in (first.0, first.1, ap not_blank first.2)

-- what follows from the rows so far and from the next line
next : {P Q : List Line → Type 0} (first mid : Source) (rows : List RosterLine) → IfKnown first (λ lines. SoFar lines rows mid) → IfKnown mid Q → ((lines left : List Line) → LeavesLines lines rows left → Q left → P lines) → IfKnown first P
next {Q = Q} (known bytes) mid rows so_far found follows =
    follows (commands_of bytes) (commands_of so_far.0) so_far.2 (subst (λ (s : Source). IfKnown s Q) so_far.1 found)
next unknown mid rows so_far found follows = tt
next failed mid rows so_far found follows = tt

-- lines whose first one is no text are no rows, nor are none
no_rows : (bytes : List ℕ) (new : Source) (answer : NextLine) (more : List RosterLine) (after : List Line) → Gives (known bytes) answer new → ((t : Bor (List ℕ)) → answer ≡ Text t → ⊥) → (answer ≡ Fault → ⊥) → HasRows (commands_of bytes) more after → ⊥
no_rows bytes new (Text t) more after gives no_text no_fault has = absurd (no_text t refl)
no_rows bytes new Fault more after gives no_text no_fault has = absurd (no_fault refl)
no_rows bytes new End more after gives no_text no_fault has = subst (λ (bs : List ℕ). HasRows (commands_of bs) more after) gives.0 has
no_rows bytes new Long more after gives no_text no_fault has =
    let first = Gives-first bytes new Long too_long gives refl in
    subst (λ (ls : List Line). HasRows ls more after) (ap not_blank first.2) has
no_rows bytes new NotAscii more after gives no_text no_fault has =
    let first = Gives-first bytes new NotAscii not_ascii gives refl in
    subst (λ (ls : List Line). HasRows ls more after) (ap not_blank first.2) has

-- so there the lines begin with no roster
pub HasNoRoster-ended : (first mid new : Source) (rows : List RosterLine) (answer : NextLine) → IfKnown first (λ lines. SoFar lines rows mid) → Gives mid answer new → ((t : Bor (List ℕ)) → answer ≡ Text t → ⊥) → (answer ≡ Fault → ⊥) → IfKnown first HasNoRoster
HasNoRoster-ended first mid new rows answer so_far gives no_text no_fault =
    IfKnown-map first so_far (λ lines so all after roster.
    let parts = so.2.splits all after (HasRoster-rows lines all after roster) in
    no_rows so.0 new answer parts.0 after (subst (λ (s : Source). Gives s answer new) so.1 gives) no_text no_fault parts.2)

-- a read that failed says nothing
pub ReadsRoster-failed : (source : Source) → IfKnown source (λ lines. ⊤)
ReadsRoster-failed (known bytes) = tt
ReadsRoster-failed unknown = tt
ReadsRoster-failed failed = tt

module _ (first mid new : Source) (rows : List RosterLine) (answer : NextLine) (line : List ℕ)
    (so_far : IfKnown first (λ lines. SoFar lines rows mid)) (gives : Gives mid answer new) (shows : Shows answer (text line)) where
  -- a blank line changes nothing
  pub SoFar-blank : list_all is_space line ≡ true → IfKnown first (λ lines. SoFar lines rows new)
  SoFar-blank blank =
      next first mid rows so_far (given mid new answer (text line) gives shows)
      (λ lines left leaves taken. (taken.0, taken.1, subst (λ (there : List Line). LeavesLines lines rows there) (taken.2 ∙ rw blank refl) leaves))

  -- another line is the first of those that are not blank
  spoken : list_all is_space line ≡ false → IfKnown mid (λ lines. (rest : List ℕ) × (new ≡ known rest) × (lines ≡ text line ∷ commands_of rest))
  spoken filled = rw filled at (given mid new answer (text line) gives shows)

  -- one row more
  pub SoFar-row : (row : RosterLine) → list_all is_space line ≡ false → IsRow line row → IfKnown first (λ lines. SoFar lines (rows ++ row ∷ []) new)
  SoFar-row row filled is =
      next first mid rows so_far (spoken filled)
      (λ lines left leaves taken. (taken.0, taken.1, LeavesLines-row lines rows left line (commands_of taken.0) row leaves taken.2 is))

  -- no row was added: a roster has none there, or memory lacked
  pub ReadsRoster-refused : (after : List RosterLine) (why : ScriptFault) → list_all is_space line ≡ false → (words line ≡ codes "begin" ∷ [] → rows ≡ []) → AddsRow rows line (Err why) after → IfKnown first (λ lines. ReadsRoster lines (Err why) new)
  ReadsRoster-refused after fault.Roster filled no_end adds =
      next first mid rows so_far (spoken filled)
      (λ lines left leaves taken. HasNoRoster-refused lines rows left line (commands_of taken.0) leaves taken.2 no_end adds)
  ReadsRoster-refused after fault.Read filled no_end adds = absurd adds
  ReadsRoster-refused after fault.Memory filled no_end adds = next first mid rows so_far (spoken filled) (λ lines left leaves taken. tt)
  ReadsRoster-refused after fault.Write filled no_end adds = absurd adds

  -- and nothing was written
  pub AddsRow-writes_nothing : (after : List RosterLine) (why : ScriptFault) → AddsRow rows line (Err why) after → why ≢ fault.Write
  AddsRow-writes_nothing after fault.Write adds is = adds
  AddsRow-writes_nothing after fault.Roster adds is = cc
  AddsRow-writes_nothing after fault.Read adds is = adds
  AddsRow-writes_nothing after fault.Memory adds is = cc

  -- `begin`, after a tenant
  pub ReadsRoster-begin : IsRoster rows → list_all is_space line ≡ false → words line ≡ codes "begin" ∷ [] → IfKnown first (λ lines. ReadsRoster lines (Ok rows) new)
  ReadsRoster-begin roster filled begin =
      next first mid rows so_far (spoken filled)
      (λ lines left leaves taken. (taken.0, taken.1, HasRoster-read lines rows left line (commands_of taken.0) leaves taken.2 begin roster))
