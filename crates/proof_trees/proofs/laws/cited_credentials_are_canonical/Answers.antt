use Rattle.proof_trees.proofs.TextLemmas.{cited_canonical}
use Rattle.proof_trees.proofs.laws.cited_credentials_are_canonical.Goals as goal

pub returns : goal.returns
returns c = cited_canonical
