use Rattle.std.proofs.Common.{◌≡◌, MatchOption, subst}
use Rattle.cred_graph.specs.Graph.{GraphState, IsSolution}
use Rattle.search.specs.Search.{rows_of, asked_role}
use Rattle.search.specs.Net.{IsJustified}
use Rattle.proof_trees.specs.PlacedSolution.{Stands}
use Rattle.proof_trees.proofs.ProvingLemmas.{if_completed, asked_found}
use Rattle.proof_trees.proofs.proving.asked_solution.Goals as goal

pub returns-clause-justified : goal.returns-clause-justified
returns-clause-justified c =
    let s = c.args.search.now in
    if_completed (IsJustified (rows_of s) (asked_role s.query) s.graph) s.stage c.requires.completed c.graph.ensures.reasons

pub returns-clause-found : goal.returns-clause-found
returns-clause-found c =
    let s = c.args.search.now in
    let justified = if_completed (IsJustified (rows_of s) (asked_role s.query) s.graph) s.stage c.requires.completed c.graph.ensures.reasons in
    let found = subst (λ (g : GraphState). MatchOption c.placed_solution.result (IsSolution g 0 c.args.who.now → ⊥) (λ f. Stands g f × (f.solution.node ≡ 0) × (f.solution.who ≡ c.args.who.now)))
    c.graph.ensures.graph c.placed_solution.ensures in
    asked_found s c.args.who.now justified c.requires.exact c.placed_solution.result found
