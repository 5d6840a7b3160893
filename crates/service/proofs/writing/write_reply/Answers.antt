-- What each call takes goes out behind what is sent.
use Rattle.std.proofs.Common.{◌≡◌, ◌-◌, length, drop, arith}
use Rattle.std.proofs.lemmas.List.{take_all, length-take, length-drop}
use Rattle.service.proofs.WrittenLemmas.{Appends-sent, Keeps-nothing, WritesFront-sent}
use Rattle.service.proofs.writing.write_reply.Goals as goal

pub loop-sent-preserved : goal.loop-sent-preserved
loop-sent-preserved g c =
    let s = c.loop-sent.invariant in
    let sent = c.loop-sent.sent in
    let reply = c.args.reply.now in
    record {
      within = omega (arith, c.in-Ok.ensures.bound, length-take (length reply - sent) (drop sent reply), length-drop sent reply);
      appended = Appends-sent _ (g.W.Write.contents c.loop-sent.writer) _ reply sent c.in-Ok.count s.appended c.in-Ok.ensures.bytes;
    }

pub returns-in-Ok-eq0 : goal.returns-in-Ok-eq0
returns-in-Ok-eq0 g c =
    let none : c.in-Ok-eq0.field-0 ≡ 0 = omega arith in
    record {
      ok = tt;
      err = WritesFront-sent _ (g.W.Write.contents c.loop-sent.writer) _ c.args.reply.now c.loop-sent.sent (omega arith) c.loop-sent.invariant.appended
          (Keeps-nothing (g.W.Write.contents c.loop-sent.writer) _ (rw none at c.in-Ok-eq0.ensures.bytes));
    }

pub returns-in-Err : goal.returns-in-Err
returns-in-Err g c = record {
  ok = tt;
  err = WritesFront-sent _ (g.W.Write.contents c.loop-sent.writer) _ c.args.reply.now c.loop-sent.sent (omega arith) c.loop-sent.invariant.appended c.in-Err.ensures.bytes;
}

pub returns : goal.returns
returns g c = record { ok = rw (take_all c.loop-sent.sent c.args.reply.now (omega arith)) at c.loop-sent.invariant.appended; err = tt }
