use Rattle.cred_graph.proofs.graphs.Graph.give_back.Goals as goal

pub invariant_of-self : goal.invariant_of-self
invariant_of-self c = rw (c.give_back.ensures, c.give_back-2.ensures) c.self.invariant

pub returns : goal.returns
returns c = record { unchanged = rw (c.give_back.ensures, c.give_back-2.ensures) c.self.view_is }
