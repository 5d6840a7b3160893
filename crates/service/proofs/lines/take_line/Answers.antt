-- Each part that comes goes behind the bytes of the line, up to its end.
use Rattle.std.proofs.Common.{Some, None}
use Rattle.service.specs.LineReader.{unread_bytes}
use Rattle.service.proofs.TakenLemmas.{takes-more}
use Rattle.service.proofs.lines.take_line.Goals as goal

pub returns-in-Some-clause-taken : goal.returns-in-Some-clause-taken
returns-in-Some-clause-taken g c =
    let old = unread_bytes g.R.Read.remaining c.args.ahead.now in
    let ahead = unread_bytes g.R.Read.remaining c.loop-turn.ahead in
    let new = unread_bytes g.R.Read.remaining c.take_part.new.ahead in
    takes-more old ahead new (Some c.in-Some.stage) c.loop-turn.line.items c.take_part.new.line.items c.loop-turn.invariant.taken c.in-Some.ensures.taken

pub loop-turn-preserved : goal.loop-turn-preserved
loop-turn-preserved g c =
    let old = unread_bytes g.R.Read.remaining c.args.ahead.now in
    let ahead = unread_bytes g.R.Read.remaining c.loop-turn.ahead in
    let new = unread_bytes g.R.Read.remaining c.take_part.new.ahead in
    record {
      taken = takes-more old ahead new None c.loop-turn.line.items c.take_part.new.line.items c.loop-turn.invariant.taken c.in_default.ensures.taken;
      few = c.in_default.ensures.few;
      room = c.in_default.ensures.room;
    }
