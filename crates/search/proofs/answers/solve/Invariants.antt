use Rattle.std.proofs.Common.{◌≡◌, ◌++◌, take, true}
use Rattle.cred_graph.specs.Graph.{SolutionGiven}
use Rattle.cred_graph.specs.Numbers.{entity_at, reason_at}
use Rattle.search.proofs.Tells.{new_tells}
use Rattle.search.proofs.answers.solve.Given as goal

abbrev pub invariant-loop-place : goal.invariant-loop-place
invariant-loop-place l =
    SolutionGiven l.fn.found.graph l.found.graph (record { node = l.node; who = entity_at l.fn.found.graph.nodes l.who; reason = reason_at l.fn.found.graph.nodes l.fn.reason }) true
    × (l.found.monitors ≡ l.fn.found.monitors)
    × (l.found.outs ≡ l.fn.found.outs ++ take l.place (new_tells l.found.graph l.node (entity_at l.found.graph.nodes l.who)))
