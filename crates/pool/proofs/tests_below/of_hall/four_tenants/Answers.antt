use Rattle.std.specs.List.{IsDistinct}
use Rattle.std.proofs.Common.{rules}
use Rattle.pool.proofs.tests_below.of_hall.four_tenants.Goals as goal

pub make-requires : goal.make-requires
unfolding IsDistinct
make-requires c = search rules
