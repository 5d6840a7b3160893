use Rattle.std.proofs.Common.{◌∙◌, ap, arith, Some}
use Rattle.cred_graph.proofs.NumberLemmas.{entity_is}
use Rattle.cred_graph.proofs.StoredLemmas.{length-members, member_read, member_entity}
use Rattle.cred_graph.proofs.graphs.Graph.solution.Goals as goal

pub solution-requires : goal.solution-requires
solution-requires c =
    let place = rw (← c.self.view_is) at c.requires.place in
    omega (arith, length-members c.self.inside.nodes c.self.inside.strangers c.self.inside.tables.0 c.self.inside.tables.1 c.args.n)

pub entity-requires : goal.entity-requires
entity-requires c = member_entity c.self.inside.nodes c.self.inside.strangers c.self.inside.tables.0 c.self.inside.tables.1 c.args.n c.args.i c.solution.result c.self.invariant c.solution.ensures

pub returns : goal.returns
returns c =
    rw (← c.self.view_is)
    (member_read c.self.inside.nodes c.self.inside.strangers c.self.inside.tables.0 c.self.inside.tables.1 c.args.n c.args.i c.solution.result c.solution.ensures ∙ ap Some (entity_is c.self.inside.nodes c.solution.result c.entity.result c.entity.ensures))
