use Rattle.std.proofs.Common.{arith}
use Rattle.std.proofs.lemmas.Bool.{false≢true}
use Rattle.proof_trees.proofs.premises.Premises.make.Goals as goal

pub returns-then-places-gt-MOST_PREMISES-clause-made : goal.returns-then-places-gt-MOST_PREMISES-clause-made
returns-then-places-gt-MOST_PREMISES-clause-made c = (λ e. absurd (false≢true e), λ few. absurd (omega arith))
