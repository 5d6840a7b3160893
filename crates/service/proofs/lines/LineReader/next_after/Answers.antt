-- A line that was read ahead is the first of what was left; for any other all that waits goes out before it is read.
use Rattle.std.proofs.Common.{refl}
use Rattle.std.specs.Str.Lines.{strip_carriage_return}
use Rattle.service.specs.declared.lines.Stage.TheVariants.{Open}
use Rattle.service.specs.Line.{line_of}
use Rattle.service.specs.LineReader.{Shows, ShowsAt, stripped_at, unread_bytes}
use Rattle.service.proofs.LinesLemmas.{Gives-taken}
use Rattle.service.proofs.WrittenLemmas.{SendsUpTo-kept, shown_on, all_sent}
use Rattle.service.proofs.lines.LineReader.next_after.Goals as goal

pub returns-then-take_ahead : goal.returns-then-take_ahead
returns-then-take_ahead g c =
    let old = unread_bytes g.R.Read.remaining c.self.inside.ahead in
    let new = unread_bytes g.R.Read.remaining c.take_ahead.new.ahead in
    let raw = c.take_ahead.new.line.items in
    let shows : Shows c.show.result (line_of (strip_carriage_return raw)) = rw (c.deref.ensures.value, c.strip.ensures.stripped) at c.show.ensures.shows in
    let gives = Gives-taken old new Open raw c.show.result (c.take_ahead.ensures.taken c.if-take_ahead.true) shows in (
      (refl, λ _. tt, rw (← c.self.view_is, c.in-Open.is) gives),
      record {
        after_borrow = tt;
        sent = SendsUpTo-kept (g.W.Write.contents c.args.writer.now) c.args.out.now;
        all = shown_on c.show.result (line_of (strip_carriage_return raw)) shows;
        err = tt;
      },
    )

pub returns : goal.returns
returns g c =
    let old = unread_bytes g.R.Read.remaining c.take_ahead.new.ahead in
    let taken = c.read_line-stage in
    let new = unread_bytes g.R.Read.remaining taken.new.ahead in
    let shows : ShowsAt taken.result (stripped_at taken.result taken.new.line.items) c.show-2.result =
    rw (c.deref-2.ensures.value, c.strip-2.ensures.stripped) at c.show-2.ensures.shows in
    let gives = Gives-taken old new taken.result taken.new.line.items c.show-2.result taken.ensures.taken shows in
    let none = c.in-Ok-send.ensures.nothing_waits in
    let sent = all_sent (g.W.Write.contents c.args.writer.now) (g.W.Write.contents c.send-2.new.writer) c.args.out.now c.send-2.new.self none c.in-Ok-send.ensures.ok in (
      (refl, λ _. tt, rw (← c.self.view_is, c.in-Open.is, ← c.take_ahead.ensures.none c.if-take_ahead.false) gives),
      record { after_borrow = tt; sent = sent; all = λ ended. none; err = tt },
    )
