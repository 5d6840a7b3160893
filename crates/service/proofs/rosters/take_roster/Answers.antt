-- A faulty roster is answered by the one line.
use Rattle.std.proofs.Common.{◌≡◌, ℕ, List, ◌∷◌, ◌++◌, [], codes, ap, arith, sym, subst}
use Rattle.std.specs.Io.KnownBytes.{Appends}
use Rattle.std.proofs.lemmas.Fmt.{decimal-digits_of}
use Rattle.service.specs.Reply.{line_after}
use Rattle.service.specs.Written.{WroteFront, roster_refusal}
use Rattle.service.proofs.LinesLemmas.{IfKnown-map}
use Rattle.service.proofs.rosters.take_roster.Goals as goal

-- the number and the text of the refusal, written out
roster_line : roster_refusal ≡ codes "?: error 63 roster" ++ 10 ∷ []
roster_line =
    ap (λ (digits : List ℕ). line_after (codes "?: ") (codes "error " ++ digits ++ codes " " ++ codes "roster")) (decimal-digits_of 63 (omega arith) (omega arith))

pub returns-in-Ok-clause-roster : goal.returns-in-Ok-clause-roster
returns-in-Ok-clause-roster g c =
    let faulty = rw c.in-Err-Roster.field-0-is at c.in-Err-Roster.ensures.roster in
    let line = subst (λ (t : List ℕ). Appends (g.W.Write.contents c.args.writer.now) (g.W.Write.contents c.write_reply.new.writer) t) (sym roster_line) c.in-Ok.ensures.ok in
    IfKnown-map c.args.lines.now faulty (λ lines none. (none, line))

pub returns-in-Err-clause-roster : goal.returns-in-Err-clause-roster
returns-in-Err-clause-roster g c =
    let faulty = rw c.in-Err-Roster.field-0-is at c.in-Err-Roster.ensures.roster in
    let line = subst (λ (t : List ℕ). WroteFront t (Appends (g.W.Write.contents c.args.writer.now) (g.W.Write.contents c.write_reply.new.writer))) (sym roster_line) c.in-Err.ensures.err in
    IfKnown-map c.args.lines.now faulty (λ lines none. (none, line))
