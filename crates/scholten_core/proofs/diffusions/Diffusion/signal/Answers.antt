use Rattle.std.proofs.Common.{◌++◌, option_to_list, ap, ◌∙◌, arith}
use Rattle.scholten_core.proofs.Delivered.{IsSignalled, signalled_fields}
use Rattle.scholten_core.proofs.Trees.{hit-self}
use Rattle.scholten_core.proofs.Steps.{deficit-delivered}
use Rattle.scholten_core.specs.Kept.{held_in}
use Rattle.scholten_core.proofs.diffusions.Diffusion.signal.Given.{Over}
use Rattle.scholten_core.proofs.diffusions.Diffusion.signal.Goals as goal
use Rattle.scholten_core.proofs.diffusions.Diffusion.signal.Goals.{After-put}

-- the fields hold the computation with the signal delivered
done : (g : Over) (c : After-put g) → IsSignalled (held_in c.self.inside.letters c.self.inside.signals.items c.self.inside.nodes.items) c.args.place (held_in c.self.inside.letters c.put.new.signals.items c.deliver-by.new.nodes.items) c.deliver-by.new.environment c.deliver-by.new.nodes.items
done g c =
    let signals = c.self.inside.signals.items in
    signalled_fields c.self.inside.letters signals c.self.inside.environment c.self.inside.nodes.items c.self.invariant c.args.place c.take-to.result c.take-to.ensures.signal c.deliver-by.new.environment c.deliver-by.new.nodes.items c.deliver-by.result c.deliver-by.ensures c.put.new.signals.items (c.put.ensures ∙ ap (λ s. s ++ option_to_list c.deliver-by.result) c.take-to.ensures.rest)

pub deliver-by-requires : goal.deliver-by-requires
deliver-by-requires g c =
    let to = c.take-to.result in
    omega (arith, c.self.invariant.counts to, deficit-delivered (held_in c.self.inside.letters c.self.inside.signals.items c.self.inside.nodes.items) c.args.place to c.take-to.ensures.signal to, hit-self to)

pub invariant_of-self : goal.invariant_of-self
invariant_of-self g c = (done g c).kept

pub returns : goal.returns
returns g c = rw (← c.self.view_is) (done g c).step
