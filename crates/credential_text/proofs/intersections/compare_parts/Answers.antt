use Rattle.std.proofs.Common.{◌∙◌, arith}
use Rattle.credential_text.proofs.PartLists.{order_by_length}
use Rattle.credential_text.proofs.intersections.compare_parts.Goals as goal

pub returns : goal.returns
returns c =
    c.cmp.ensures ∙ order_by_length c.args.parts.now c.args.others.now c.loop-i.i c.loop-i-test.false c.loop-i.invariant.0 (omega arith) c.loop-i.invariant.1
