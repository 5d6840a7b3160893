-- Each name stands for itself.
use Rattle.std.proofs.Common.{Bool}
use Rattle.std.proofs.lemmas.Result.{IfOk-weaker}
use Rattle.monitors.specs.MeetMonitor.{HasTold, told_by, HearsByName}
use Rattle.monitors.proofs.TableLemmas.{told_now}
use Rattle.monitors.proofs.meet_monitors.MeetMonitor.part_told.Goals as goal

pub returns-clause-told : goal.returns-clause-told
returns-clause-told c =
    IfOk-weaker c.part_told.result
    (λ (last : Bool). HearsByName c.self.inside.told c.part_told.new.self c.args.part c.args.who last)
    (λ (last : Bool). HasTold (told_by (λ who. who) c.part_told.new.self) c.args.part c.args.who)
    (λ last hears. told_now _ _ c.args.part c.args.who last (hears (λ who. who) (λ a b x y e. e))) c.part_told.ensures.ok
