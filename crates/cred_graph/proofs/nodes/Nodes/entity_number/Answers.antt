use Rattle.cred_graph.proofs.nodes.Nodes.entity_number.Goals as goal

pub returns : goal.returns
returns c = c.number.ensures
