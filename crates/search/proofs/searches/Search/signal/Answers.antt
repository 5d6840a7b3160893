-- A signal changes no letter.
use Rattle.std.proofs.Common.{subst}
use Rattle.search.specs.Stage.{Delivers}
use Rattle.search.specs.Search.{SearchState}
use Rattle.search.specs.contracts.searches.Search.{the_view}
use Rattle.search.proofs.Searching.{delivered_kept}
use Rattle.search.proofs.Answered.{signal_settles}
use Rattle.search.proofs.searches.Search.signal.Goals as goal

pub invariant_of-self : goal.invariant_of-self
invariant_of-self c = rw (c.deliver.ensures.findings.0, c.deliver.ensures.findings.1)
    (delivered_kept (the_view c.self.inside) c.deliver.new.stage c.args.place c.deliver.result c.self.invariant c.deliver.ensures.delivers)

pub returns-clause-delivered : goal.returns-clause-delivered
returns-clause-delivered c = subst (λ (s : SearchState). Delivers s.stage c.deliver.new.stage c.args.place c.deliver.result) c.self.view_is c.deliver.ensures.delivers

pub returns-clause-settles : goal.returns-clause-settles
returns-clause-settles c = rw (c.deliver.ensures.findings.0, c.deliver.ensures.findings.1)
    (signal_settles c.deliver.new.stage c.args.place c.deliver.result c.self.view_is c.self.invariant c.deliver.ensures.delivers)
