-- The lines are those of the input.
use Rattle.std.proofs.Common.{List}
use Rattle.std.specs.Io.KnownBytes.{Appends}
use Rattle.service.specs.Line.{Line}
use Rattle.service.specs.Written.{OpensWith}
use Rattle.service.specs.Roster.{HasRoster}
use Rattle.service.proofs.LinesLemmas.{IfKnown-input, IfKnown-map}
use Rattle.service.proofs.ScriptLemmas.{OpensWith-taken}
use Rattle.service.proofs.rosters.read_roster.Goals as goal

pub returns-clause-roster : goal.returns-clause-roster
returns-clause-roster g c =
    let told = c.take_roster.result in
    let out = Appends (g.W.Write.contents c.args.writer.now) (g.W.Write.contents c.take_roster.new.writer) in
    IfKnown-input (λ (lines : List Line). OpensWith (λ rows. (rest : List Line) × HasRoster lines rows rest) lines told out) (g.R.Read.remaining c.args.reader) c.in_ok-lines.lines c.in_ok-lines.ensures.source
    (IfKnown-map c.in_ok-lines.lines c.take_roster.ensures.roster (λ lines takes. OpensWith-taken lines told c.take_roster.new.lines out takes))
