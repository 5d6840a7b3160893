-- What a running search has found is right.
use Rattle.std.proofs.Common.{subst}
use Rattle.search.specs.Search.{IsKept, rows_of, asked_role}
use Rattle.search.proofs.Searching.{justified}
use Rattle.search.proofs.searches.Search.graph.Goals as goal

pub returns-clause-reasons : goal.returns-clause-reasons
returns-clause-reasons c =
    let s = c.args.self.now in
    λ d runs. justified (rows_of s) (asked_role s.query) s.work s.graph s.monitors d ((subst IsKept c.self.view_is c.self.invariant).rules d runs)
