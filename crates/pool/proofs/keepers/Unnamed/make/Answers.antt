use Rattle.pool.proofs.Seating.{begins}
use Rattle.pool.proofs.keepers.Unnamed.make.Goals as goal

pub of_words-requires : goal.of_words-requires
of_words-requires c = begins
