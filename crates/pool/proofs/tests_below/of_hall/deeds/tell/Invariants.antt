use Rattle.std.specs.Prelude.{length}
use Rattle.pool.proofs.tests_below.of_hall.deeds.tell.Given as goal

abbrev pub decreases-loop-who : goal.decreases-loop-who
decreases-loop-who l = length l.ends
