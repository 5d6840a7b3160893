use Rattle.std.proofs.Common.{arith}
use Rattle.cred_graph.proofs.StoredLemmas.{length-members, member_read, member_entity}
use Rattle.cred_graph.proofs.graphs.Graph.numbered_solution.Goals as goal

pub solution-requires : goal.solution-requires
solution-requires c =
    let place = rw (← c.self.view_is) at c.requires.place in
    omega (arith, length-members c.self.inside.nodes c.self.inside.strangers c.self.inside.tables.0 c.self.inside.tables.1 c.args.n)

pub returns-clause-entity : goal.returns-clause-entity
returns-clause-entity c = rw (← c.self.view_is) (member_entity c.self.inside.nodes c.self.inside.strangers c.self.inside.tables.0 c.self.inside.tables.1 c.args.n c.args.i c.solution.result c.self.invariant c.solution.ensures)

pub returns-clause-solution : goal.returns-clause-solution
returns-clause-solution c = rw (← c.self.view_is) (member_read c.self.inside.nodes c.self.inside.strangers c.self.inside.tables.0 c.self.inside.tables.1 c.args.n c.args.i c.solution.result c.solution.ensures)
