use Rattle.std.proofs.Common.{◌∙◌, ap, length}
use Rattle.cred_graph.proofs.StoredLemmas.{length-members}
use Rattle.cred_graph.proofs.graphs.Graph.solutions.Goals as goal

pub returns-clause-count : goal.returns-clause-count
returns-clause-count c = rw (← c.self.view_is) (ap length c.members.ensures ∙ length-members c.self.inside.nodes c.self.inside.strangers c.self.inside.tables.0 c.self.inside.tables.1 c.args.n)

pub returns-clause-graph : goal.returns-clause-graph
returns-clause-graph c = rw (← c.self.view_is) c.self.invariant.graph
