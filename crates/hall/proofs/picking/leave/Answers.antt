use Rattle.hall.proofs.picking.leave.Goals as goal

pub returns-then-len-gt1 : goal.returns-then-len-gt1
returns-then-len-gt1 c = record {
  kept = λ name k stays listed. c.leave_empty.ensures.kept name k (λ none. none) (c.take_out.ensures.kept name k stays listed);
  gone = λ listed. c.take_out.ensures.gone (c.leave_empty.ensures.same c.args.number listed);
}
