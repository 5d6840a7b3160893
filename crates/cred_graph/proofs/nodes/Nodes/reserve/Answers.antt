use Rattle.std.proofs.Common.{◌∙◌}
use Rattle.cred_graph.proofs.nodes.Nodes.reserve.Goals as goal

pub returns : goal.returns
returns c = c.reserve.ensures.keys ∙ c.self.view_is
