use Rattle.std.proofs.Common.{arith}
use Rattle.scholten_core.proofs.diffusions.Diffusion.finish.Goals as goal

pub finish_with-requires : goal.finish_with-requires
finish_with-requires g c = record { held = c.requires.held; room = omega (arith, c.requires.room, c.from_vec.ensures.len) }

pub returns : goal.returns
returns g c = record {
  finished = rw (← c.from_vec.ensures.items) c.finish_with.ensures.finished;
  unchanged = c.finish_with.ensures.unchanged;
  sound = c.finish_with.ensures.sound;
}
