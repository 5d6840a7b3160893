use Rattle.std.proofs.Common.{◌≡◌, ◌++◌, take, true}
use Rattle.cred_graph.specs.Graph.{ListenerGiven}
use Rattle.cred_graph.specs.Numbers.{port_at}
use Rattle.search.proofs.Tells.{known_tells}
use Rattle.search.proofs.answers.hear_ask.Given as goal

abbrev pub invariant-loop-place : goal.invariant-loop-place
invariant-loop-place l =
    ListenerGiven l.fn.found.graph l.found.graph l.node (record { asker = l.asker; port = port_at l.fn.found.graph.nodes l.port }) true
    × (l.found.monitors ≡ l.fn.found.monitors)
    × (l.found.outs ≡ l.fn.found.outs ++ take l.place (known_tells l.found.graph l.node l.asker (port_at l.found.graph.nodes l.port)))
