use Rattle.proof_trees.proofs.Walk.{IsWalk, walk_left}
use Rattle.proof_trees.proofs.proving.written.Given as goal

abbrev pub invariant-loop-found : goal.invariant-loop-found
invariant-loop-found l = IsWalk l.graph l.fn.asked l.draft l.needed.items

abbrev pub decreases-loop-found : goal.decreases-loop-found
decreases-loop-found l = walk_left l.graph l.draft l.needed.items
