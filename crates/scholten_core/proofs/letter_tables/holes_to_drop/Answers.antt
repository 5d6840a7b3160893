use Rattle.std.proofs.Common.{arith}
use Rattle.scholten_core.proofs.letter_tables.holes_to_drop.Goals as goal

pub overflow_sub-result : goal.overflow_sub-result
overflow_sub-result c = omega arith
