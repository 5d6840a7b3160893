use Rattle.proof_trees.proofs.proofs.Proof.new.Goals as goal

pub returns : goal.returns
returns c = c.new.ensures.items
