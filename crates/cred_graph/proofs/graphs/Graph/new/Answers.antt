use Rattle.cred_graph.proofs.Growth.{none, stored}
use Rattle.cred_graph.proofs.graphs.Graph.new.Goals as goal

pub returns-clause-empty : goal.returns-clause-empty
returns-clause-empty c = none c.new.result c.new-2.result c.new-3.result c.new.ensures c.new-3.ensures

pub invariant_of-result : goal.invariant_of-result
invariant_of-result c = stored c.new.result c.new-2.result c.new-3.result c.new.ensures c.new-2.ensures c.new-3.ensures

pub returns-clause-graph : goal.returns-clause-graph
returns-clause-graph c = (stored c.new.result c.new-2.result c.new-3.result c.new.ensures c.new-2.ensures c.new-3.ensures).graph
