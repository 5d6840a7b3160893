use Rattle.cred_graph.proofs.graphs.Graph.node.Goals as goal

pub returns-in-Some : goal.returns-in-Some
returns-in-Some c = record { node = rw (← c.self.view_is) c.in-Some.ensures; graph = rw (← c.self.view_is) c.self.invariant.graph }

pub returns-in-None : goal.returns-in-None
returns-in-None c = record { node = rw (← c.self.view_is) c.in-None.ensures; graph = rw (← c.self.view_is) c.self.invariant.graph }
