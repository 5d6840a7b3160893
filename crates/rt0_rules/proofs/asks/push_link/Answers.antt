use Rattle.std.proofs.Common.{◌++◌, ◌∙◌, ap, sym}
use Rattle.rt0_rules.specs.Facts.{knows}
use Rattle.rt0_rules.specs.Asked.{base_ask, via_asks}
use Rattle.rt0_rules.proofs.Elements.{appends_next, appends_where, appends_nothing, appends_all}
use Rattle.rt0_rules.proofs.asks.push_link.Goals as goal
use Rattle.rt0_rules.proofs.asks.push_link.Goals.{then-knows+in_ok-push-2, else-knows}

pub loop-who-preserved : goal.loop-who-preserved
loop-who-preserved c =
    appends_next (via_asks c.args.facts.now c.args.base.now c.args.name.now) c.args.everyone.now c.loop-who.who-index c.who-item.result
    (c.args.asks.now.items ++ base_ask c.args.base.now c.args.name.now)
    c.loop-who.asks.items c.if-knows.asks.items c.loop-who-test.true c.who-item.is c.loop-who.invariant
    (elim c.if-knows.branch [
      | then-knows+in_ok-push-2 w ↦ ap (λ v. v.items) w.asks-is
          ∙ appends_where (knows c.args.facts.now c.args.base.now c.who-item.result) _ c.loop-who.asks.items _
          (sym c.knows.ensures ∙ w.if-knows.true) w.in_ok-push-2.ensures.items
      | else-knows w ↦ appends_nothing (knows c.args.facts.now c.args.base.now c.who-item.result) _ c.loop-who.asks.items _
          (sym c.knows.ensures ∙ w.if-knows.false) (ap (λ v. v.items) w.asks-is)
    ])

pub returns : goal.returns
returns c =
    appends_all (via_asks c.args.facts.now c.args.base.now c.args.name.now) c.args.everyone.now c.loop-who.who-index
    (c.args.asks.now.items ++ base_ask c.args.base.now c.args.name.now) c.loop-who.asks.items c.loop-who-test.false c.loop-who.invariant
