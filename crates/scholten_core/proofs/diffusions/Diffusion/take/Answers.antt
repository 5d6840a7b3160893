use Rattle.scholten_core.proofs.Fields.{taken_kept, takes_letter}
use Rattle.scholten_core.proofs.diffusions.Diffusion.take.Goals as goal

pub invariant_of-self : goal.invariant_of-self
invariant_of-self g c =
    taken_kept c.self.inside.letters c.take-number.new.self c.self.inside.signals.items c.self.inside.environment c.self.inside.nodes.items c.self.invariant c.args.place c.take-number.result.0 c.take-number.ensures.letters c.take-number.ensures.sent

pub returns : goal.returns
returns g c =
    rw (← c.self.view_is) (takes_letter c.self.inside.letters c.take-number.new.self c.self.inside.signals.items c.self.inside.environment c.self.inside.nodes.items c.self.invariant c.args.place c.take-number.result.0 c.take-number.ensures.letters c.take-number.ensures.sent c.take-number.ensures.waited)
