use Rattle.std.proofs.Common.{false}
use Rattle.scholten_core.proofs.Fields.{marked_is, marked_kept}
use Rattle.scholten_core.proofs.diffusions.Diffusion.put_back.Goals as goal

pub invariant_of-self : goal.invariant_of-self
invariant_of-self g c =
    marked_kept c.self.inside.letters c.put_back.new.self c.self.inside.signals.items c.self.inside.environment c.self.inside.nodes.items c.self.invariant c.args.number false c.put_back.ensures.letters c.put_back.ensures.sent

pub returns : goal.returns
returns g c = record {
  waits = rw (← c.self.view_is) (marked_is c.self.inside.letters c.put_back.new.self c.self.inside.signals.items c.self.inside.environment c.self.inside.nodes.items c.self.invariant c.args.number false c.put_back.ensures.letters c.put_back.ensures.sent);
  sound = (invariant_of-self g c).sound;
}
