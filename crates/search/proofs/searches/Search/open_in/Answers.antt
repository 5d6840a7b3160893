-- A new search keeps what it has to.
use Rattle.std.proofs.Common.{◌∙◌, ap}
use Rattle.std.specs.Arc.{arc_value}
use Rattle.search.specs.Answers.{Progress}
use Rattle.search.specs.Search.{new_search}
use Rattle.search.proofs.Searching.{first_graph, opened_kept}
use Rattle.search.proofs.searches.Search.open_in.Goals as goal

pub invariant_of-result : goal.invariant_of-result
invariant_of-result c =
    let found = c.begin.new.found in
    opened_kept (record { query = c.args.query; work = c.args.work; snapshot = arc_value c.args.snapshot; graph = found.graph; monitors = found.monitors; stage = c.begin.new.self })
    (ap (λ (s : Progress). s.graph) c.in_ok-begin.ensures.found ∙ ap first_graph c.role.ensures) (ap (λ (s : Progress). s.monitors) c.in_ok-begin.ensures.found) c.in_ok-begin.ensures.started c.requires c.in_ok-begin.ensures.laws

pub returns : goal.returns
unfolding new_search
returns c =
    let graph = ap (λ (s : Progress). s.graph) c.in_ok-begin.ensures.found ∙ ap first_graph c.role.ensures in
    let monitors = ap (λ (s : Progress). s.monitors) c.in_ok-begin.ensures.found in
    λ i. record {
      query = c.args.query;
      work = c.args.work;
      snapshot = arc_value c.args.snapshot;
      graph = graph i;
      monitors = monitors i;
      stage = c.in_ok-begin.ensures.started i;
    }
