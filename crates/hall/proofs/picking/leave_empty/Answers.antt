use Rattle.std.proofs.Common.{sym}
use Rattle.hall.proofs.Unsettled.{left_empty}
use Rattle.hall.proofs.picking.leave_empty.Goals as goal

pub returns-then-is_empty-clause-kept : goal.returns-then-is_empty-clause-kept
returns-then-is_empty-clause-kept c =
    left_empty c.args.busy.now c.swap_remove.new.self c.args.who.now c.in-Some.numbers.now (sym c.in-Some.ensures.value) (c.is_empty.ensures.0 c.if-is_empty.true) c.swap_remove.ensures.updates
