-- Each credential is one line more.
use Rattle.std.proofs.Common.{◌++◌, length, codes}
use Rattle.std.specs.Fmt.{decimal}
use Rattle.vaults.specs.Blocks.{rows_in}
use Rattle.service.specs.Reply.{front_of, line_after}
use Rattle.service.proofs.ReplyLemmas.{credential-next}
use Rattle.service.proofs.replies.write_vault.Goals as goal

pub loop-place-preserved : goal.loop-place-preserved
loop-place-preserved c =
    let front = front_of c.args.who.now in
    let rows = rows_in c.args.rows.now in
    credential-next front (line_after front (codes "vault " ++ decimal (length rows))) c.loop-place.buffer c.extend_front.new.self c.extend_by.new.self c.extend.new.self rows
    c.loop-place.place c.row.result.now c.row.ensures c.loop-place.invariant c.in_ok-extend_front.ensures c.in_ok-extend_by.ensures c.in_ok-extend.ensures
