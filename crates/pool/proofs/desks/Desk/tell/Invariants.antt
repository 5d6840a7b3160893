use Rattle.std.specs.Prelude.{length}
use Rattle.pool.proofs.desks.Desk.tell.Given as goal

abbrev pub decreases-loop-who : goal.decreases-loop-who
decreases-loop-who g l = length l.ends
