-- What is given is the first of what was left.
use Rattle.std.proofs.Common.{refl}
use Rattle.service.specs.LineReader.{ShowsAt, stripped_at, unread_bytes}
use Rattle.service.proofs.LinesLemmas.{Gives-taken}
use Rattle.service.proofs.lines.LineReader.next.Goals as goal

pub returns : goal.returns
returns g c =
    let old = unread_bytes g.R.Read.remaining c.self.inside.ahead in
    let taken = c.take_line-self-inside in
    let new = unread_bytes g.R.Read.remaining taken.new.ahead in
    let shows : ShowsAt taken.result (stripped_at taken.result taken.new.line.items) c.show.result =
    rw (c.deref.ensures.value, c.strip.ensures.stripped) at c.show.ensures.shows in
    let gives = Gives-taken old new taken.result taken.new.line.items c.show.result taken.ensures.taken shows in
    ((refl, λ _. tt, rw (← c.self.view_is, c.in-Open.is) gives), record { after_borrow = tt; text = c.show.ensures.text })
