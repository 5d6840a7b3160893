use Rattle.std.proofs.lemmas.Option.{slice_get_within}
use Rattle.cred_graph.proofs.nodes.Nodes.entity.Goals as goal

pub expr-requires : goal.expr-requires
expr-requires c = slice_get_within c.args.self.now c.args.k _ c.requires.1

pub returns : goal.returns
returns c = rw c.in-Ent.is at c.expr.ensures
