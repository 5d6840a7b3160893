-- A number of 64 bits has 20 digits at most.
use Rattle.std.proofs.Common.{arith}
use Rattle.std.proofs.lemmas.Fmt.{length-decimal-le}
use Rattle.service.proofs.reply_buffers.ReplyBuffer.append_number.Goals as goal

pub append_digits-requires : goal.append_digits-requires
append_digits-requires c =
    let short = length-decimal-le 20 c.args.number (omega arith) (omega arith) (omega arith) in
    let short_before = rw (← c.self.view_is) at c.requires in
    record { space = omega (arith, short, short_before, c.self.invariant, c.self.inside.bytes.ok.0) }

pub returns-clause-short : goal.returns-clause-short
returns-clause-short c = length-decimal-le 20 c.args.number (omega arith) (omega arith) (omega arith)
