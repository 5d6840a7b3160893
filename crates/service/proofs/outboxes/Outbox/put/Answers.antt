-- What waited, and then the reply.
use Rattle.service.proofs.WrittenLemmas.{all_sent, WritesFront-longer, WritesFront-behind, SendsUpTo-long}
use Rattle.std.proofs.Common.{[], refl}
use Rattle.service.proofs.outboxes.Outbox.put.Goals as goal

pub returns-in_default-clause-err : goal.returns-in_default-clause-err
returns-in_default-clause-err g c = WritesFront-longer _ _ c.args.self.now c.args.reply.now c.in_default.ensures.err

pub returns-in_default-write_reply-clause-err : goal.returns-in_default-write_reply-clause-err
returns-in_default-write_reply-clause-err g c =
    WritesFront-behind _ (g.W.Write.contents c.send.new.writer) _ c.args.self.now [] c.args.reply.now (all_sent _ _ c.args.self.now [] refl c.in-Ok.ensures.ok) c.in_default-write_reply.ensures.err

pub returns-then-reply-gt-OUTBOX-clause-ok : goal.returns-then-reply-gt-OUTBOX-clause-ok
returns-then-reply-gt-OUTBOX-clause-ok g c =
    SendsUpTo-long _ (g.W.Write.contents c.send.new.writer) _ c.args.self.now c.args.reply.now c.send.new.self c.in-Ok.ensures.ok c.in-Ok-write_reply.ensures.ok c.in-Ok.ensures.nothing_waits
