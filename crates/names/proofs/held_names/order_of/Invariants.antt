use Rattle.std.proofs.Common.{◌*◌}
use Rattle.names.proofs.Words.{AreAlike}
use Rattle.names.proofs.held_names.order_of.Given as goal

abbrev pub invariant-loop-place : goal.invariant-loop-place
invariant-loop-place l = AreAlike l.cells l.others (8 * l.place)
