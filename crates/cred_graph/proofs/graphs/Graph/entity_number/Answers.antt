use Rattle.cred_graph.proofs.graphs.Graph.entity_number.Goals as goal

pub returns : goal.returns
returns c = rw (← c.self.view_is) c.entity_number.ensures
