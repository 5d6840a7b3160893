-- Each errand does what the words ask for; without memory nothing is done, and where they are refused nothing is read.
use Rattle.std.proofs.Common.{map, refl}
use Rattle.std.specs.String.{string_bytes}
use Rattle.std.specs.Io.KnownBytes.{Appends}
use Rattle.rtsearch.specs.CommandLine.{entered}
use Rattle.rtsearch.proofs.RunLemmas.{unwritten, served_all, served_not}
use Rattle.rtsearch.proofs.running.run_words.Goals as goal

pub returns-then-eq-clause-failed : goal.returns-then-eq-clause-failed
returns-then-eq-clause-failed g c failed =
    unwritten (entered (map string_bytes c.args.words.now)) (g.R.Read.remaining c.args.reader.now) (g.W.Write.contents c.args.writer.now)

pub returns-in-Ok-Serve-clause-ran : goal.returns-in-Ok-Serve-clause-ran
returns-in-Ok-Serve-clause-ran g c zero =
    let asks = rw c.in-Ok-Serve.field-0-is at c.in-Ok-Serve.ensures.errand in
    served_all (entered (map string_bytes c.args.words.now)) c.in-Ok-Serve.options.accept (g.R.Read.remaining c.args.reader.now)
    (Appends (g.W.Write.contents c.args.writer.now) (g.W.Write.contents c.run_service.new.writer)) asks.0 asks.4 (c.run_service.ensures.served zero)

pub returns-in-Ok-Serve-clause-failed : goal.returns-in-Ok-Serve-clause-failed
returns-in-Ok-Serve-clause-failed g c one =
    let asks = rw c.in-Ok-Serve.field-0-is at c.in-Ok-Serve.ensures.errand in
    served_not (entered (map string_bytes c.args.words.now)) c.in-Ok-Serve.options.accept (g.R.Read.remaining c.args.reader.now)
    (Appends (g.W.Write.contents c.args.writer.now) (g.W.Write.contents c.run_service.new.writer)) asks.0 asks.4 (c.run_service.ensures.failed one)

pub returns-else-eq-clause-refused : goal.returns-else-eq-clause-refused
returns-else-eq-clause-refused g c wrong = refl

pub returns-else-eq-clause-unread : goal.returns-else-eq-clause-unread
returns-else-eq-clause-unread g c two = refl
