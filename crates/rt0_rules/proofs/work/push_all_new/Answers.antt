use Rattle.rt0_rules.proofs.Adding.{adds_one}
use Rattle.rt0_rules.proofs.work.push_all_new.Goals as goal

pub loop-ask-preserved : goal.loop-ask-preserved
loop-ask-preserved c =
    adds_one c.loop-ask.yielded c.args.asks.now.items c.loop-ask.asks.items c.push_new.new.asks.items c.in-Some.ask c.loop-ask.invariant c.in_ok-push_new.ensures
