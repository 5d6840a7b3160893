use Rattle.std.proofs.Common.{◌∙◌, ap, length}
use Rattle.cred_graph.proofs.StoredLemmas.{length-listeners}
use Rattle.cred_graph.proofs.graphs.Graph.listeners.Goals as goal

pub returns-clause-count : goal.returns-clause-count
returns-clause-count c =
    let node = rw (← c.self.view_is) at c.requires in
    rw (← c.self.view_is) (ap length c.listeners.ensures ∙ length-listeners c.self.inside.nodes c.self.inside.strangers c.self.inside.tables.0 c.self.inside.tables.1 c.args.n node)

pub returns-clause-graph : goal.returns-clause-graph
returns-clause-graph c = rw (← c.self.view_is) c.self.invariant.graph
