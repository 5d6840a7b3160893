use Rattle.cred_graph.proofs.tables.Tables.give_back.Goals as goal

pub invariant_of-self : goal.invariant_of-self
invariant_of-self c = rw (c.shrink_to.ensures.items, c.shrink_to_fit.ensures.keys, c.shrink_to-2.ensures.entries) c.self.invariant

pub returns : goal.returns
returns c = rw (c.shrink_to.ensures.items, c.shrink_to-2.ensures.entries) c.self.view_is
