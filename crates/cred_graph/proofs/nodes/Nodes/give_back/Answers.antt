use Rattle.std.proofs.Common.{◌∙◌}
use Rattle.cred_graph.proofs.nodes.Nodes.give_back.Goals as goal

pub returns : goal.returns
returns c = c.shrink_to.ensures.keys ∙ c.self.view_is
