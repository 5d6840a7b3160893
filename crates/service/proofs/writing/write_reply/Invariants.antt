use Rattle.std.proofs.Common.{◌≤◌, ◌-◌, length, take}
use Rattle.std.specs.Io.KnownBytes.{Appends}
use Rattle.service.proofs.writing.write_reply.Given as goal

-- what is sent went out
abbrev pub invariant-loop-sent : goal.invariant-loop-sent
invariant-loop-sent g l = record {
  within : l.sent ≤ length l.reply;
  appended : Appends (g.W.Write.contents l.initial.writer) (g.W.Write.contents l.writer) (take l.sent l.reply);
}

abbrev pub decreases-loop-sent : goal.decreases-loop-sent
decreases-loop-sent g l = length l.reply - l.sent
