use Rattle.hall.proofs.Unsettled.{out_with}
use Rattle.hall.proofs.picking.settle.Goals as goal

pub returns-then-over-clause-kept : goal.returns-then-over-clause-kept
returns-then-over-clause-kept c = out_with c.args.busy.now c.leave.new.busy c.args.who.now c.args.number _ c.leave.ensures.kept c.if-over.ensures.over
