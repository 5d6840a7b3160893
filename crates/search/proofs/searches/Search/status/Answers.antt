-- What the search keeps gives the truth of what it has come to.
use Rattle.std.proofs.Common.{◌≡◌, refl, subst}
use Rattle.cred_graph.specs.Graph.{GraphState}
use Rattle.search.specs.Search.{come_to, status_of, IsKept, rows_of, asked_role}
use Rattle.search.proofs.Searching.{status_exact, rules_owed}
use Rattle.search.proofs.Answered.{status_is, ends}
use Rattle.search.proofs.searches.Search.status.Goals as goal
use Rattle.search.proofs.searches.Search.status.Goals.{After-status_at}

-- the status, by what the search is seen as
status_here : (c : After-status_at) → c.status_at.result ≡ status_of (come_to c.self.inside.stage c.self.inside.found.graph c.self.inside.query)
status_here c =
    subst (λ (g : GraphState). c.status_at.result ≡ status_of (come_to c.self.inside.stage g c.self.inside.query)) c.graph.ensures.graph c.status_at.ensures.is

pub returns-clause-is : goal.returns-clause-is
returns-clause-is c = status_is c.self.view_is (status_here c)

pub returns-clause-ending : goal.returns-clause-ending
returns-clause-ending c = ends c.args.self.now (subst IsKept c.self.view_is c.self.invariant)

pub returns-clause-exact : goal.returns-clause-exact
returns-clause-exact c =
    let s = c.args.self.now in
    status_exact s s.stage refl (subst IsKept c.self.view_is c.self.invariant).rules

pub returns-clause-rules : goal.returns-clause-rules
returns-clause-rules c =
    let s = c.args.self.now in
    λ d runs. rules_owed (rows_of s) (asked_role s.query) s.work s.graph s.monitors d ((subst IsKept c.self.view_is c.self.invariant).rules d runs)
