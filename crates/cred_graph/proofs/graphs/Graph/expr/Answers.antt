use Rattle.cred_graph.proofs.graphs.Graph.expr.Goals as goal

pub expr-requires : goal.expr-requires
expr-requires c = rw (← c.self.view_is) at c.requires

pub returns : goal.returns
returns c = record { node = rw (← c.self.view_is) c.expr.ensures; graph = rw (← c.self.view_is) c.self.invariant.graph }
