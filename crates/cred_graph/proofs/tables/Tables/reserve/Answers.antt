use Rattle.cred_graph.proofs.tables.Tables.reserve.Goals as goal

pub invariant_of-self : goal.invariant_of-self
invariant_of-self c = rw c.reserve.ensures.items c.self.invariant

pub returns : goal.returns
returns c = rw c.reserve.ensures.items c.self.view_is
