-- The lines are those of the input.
use Rattle.std.proofs.Common.{List}
use Rattle.std.specs.Io.KnownBytes.{Appends}
use Rattle.service.specs.Line.{Line}
use Rattle.service.specs.Written.{ScriptWrote}
use Rattle.service.proofs.LinesLemmas.{IfKnown-input}
use Rattle.service.proofs.scripts.run_script_keeping.Goals as goal

pub returns : goal.returns
returns g c =
    IfKnown-input (λ (lines : List Line). ScriptWrote lines c.run_lines.result (Appends (g.W.Write.contents c.args.writer.now) (g.W.Write.contents c.run_lines.new.writer)))
    (g.R.Read.remaining c.args.reader) c.in_ok-lines.lines c.in_ok-lines.ensures.source c.run_lines.ensures
