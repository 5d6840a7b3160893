use Rattle.std.proofs.Common.{ap, ◌∙◌}
use Rattle.scholten_core.specs.declared.parents.Parent.TheVariants.{Node}
use Rattle.scholten_core.proofs.Delivered.{count_of}
use Rattle.scholten_core.proofs.diffusions.Diffusion.deficit.Goals as goal

pub returns-in-Some : goal.returns-in-Some
returns-in-Some g c = rw (← c.self.view_is) (ap count_of c.in-Some.ensures ∙ c.self.invariant.counts (Node c.args.node))

pub returns-in-None : goal.returns-in-None
returns-in-None g c = rw (← c.self.view_is) (ap count_of c.in-None.ensures ∙ c.self.invariant.counts (Node c.args.node))
