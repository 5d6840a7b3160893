use Rattle.std.proofs.Common.{◌∙◌}
use Rattle.scholten_core.proofs.Fields.{emptied_is, emptied_kept}
use Rattle.scholten_core.proofs.diffusions.Diffusion.shrink.Goals as goal

pub invariant_of-self : goal.invariant_of-self
invariant_of-self g c =
    emptied_kept c.self.inside.letters c.give_back.new.self c.self.inside.signals.items c.shrink_to_fit.new.self.items c.self.inside.environment c.self.inside.nodes.items c.shrink_to_fit-2.new.self.items c.give_back.ensures.letters c.give_back.ensures.sent c.shrink_to_fit.ensures.items (c.shrink_to_fit-2.ensures.items ∙ c.clear.ensures.items) (rw (← c.self.view_is) at c.requires) c.self.invariant

pub returns : goal.returns
returns g c =
    emptied_is c.self.inside.letters c.give_back.new.self c.self.inside.signals.items c.shrink_to_fit.new.self.items c.self.inside.environment c.self.inside.nodes.items c.shrink_to_fit-2.new.self.items c.give_back.ensures.letters c.give_back.ensures.sent c.shrink_to_fit.ensures.items (c.shrink_to_fit-2.ensures.items ∙ c.clear.ensures.items) (rw (← c.self.view_is) at c.requires) ∙ c.self.view_is
