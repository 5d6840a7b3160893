use Rattle.rt0_rules.proofs.Asking.{part_step}
use Rattle.rt0_rules.proofs.asks.push_parts.Goals as goal

pub loop-place-preserved : goal.loop-place-preserved
loop-place-preserved c =
    part_step c.args.parts.now c.as_slice-part-items.result.now c.loop-place.place c.part-item.result c.args.asks.now.items c.loop-place.asks.items
    c.push.new.self.items c.in_ok-part_ask.field-0 c.loop-place-test.true c.part-item.is c.in_ok-part_ask.ensures c.loop-place.invariant c.in_ok-push.ensures.items
