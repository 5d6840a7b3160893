-- The lines are all there, or memory lacked for a long reply.
use Rattle.std.proofs.Common.{◌≡◌, true, false, Result, Ok, Err}
use Rattle.std.specs.Prelude.{OnOk, OnErr}
use Rattle.std.specs.Result.{is_err}
use Rattle.service.specs.Reply.{front_of}
use Rattle.service.proofs.ReplyLemmas.{IsFilled-whole, IsFilled-lacking}
use Rattle.service.proofs.replies.fill_reply.Goals as goal

lacks : {T E P : Type 0} (r : Result T E) → true ≡ is_err r → OnErr r P → P
lacks (Ok _) clash why = let no : true ≡ false = clash in cc
lacks (Err _) is why = why

succeeds : {T E P : Type 0} (r : Result T E) → false ≡ is_err r → OnOk r P → P
succeeds (Ok _) is what = what
succeeds (Err _) clash what = let no : false ≡ true = clash in cc

pub returns-then-is_err : goal.returns-then-is_err
returns-then-is_err c =
    IsFilled-lacking (front_of c.args.who.now) c.fill_error.new.buffer c.args.reply.now
    (lacks c.write_reply_lines.result c.if-is_err.ensures.value c.write_reply_lines.ensures.lacking) (rw c.number.ensures at c.fill_error.ensures)

pub returns-else-is_err : goal.returns-else-is_err
returns-else-is_err c =
    IsFilled-whole (front_of c.args.who.now) c.write_reply_lines.new.buffer c.args.reply.now
    (succeeds c.write_reply_lines.result c.if-is_err.ensures.value c.write_reply_lines.ensures.whole)
