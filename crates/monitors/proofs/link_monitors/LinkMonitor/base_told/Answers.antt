use Rattle.std.proofs.Common.{refl}
use Rattle.std.proofs.lemmas.Result.{IfOk-weaker}
use Rattle.monitors.specs.LinkMonitor.{AddsKey}
use Rattle.monitors.proofs.link_monitors.LinkMonitor.base_told.Goals as goal

pub returns-clause-ok : goal.returns-clause-ok
returns-clause-ok g c = rw (← c.self.view_is) (IfOk-weaker c.hear.result (AddsKey c.self.inside.bases c.hear.new.self c.args.base) _ (λ new adds. (adds, refl)) c.hear.ensures.ok)
