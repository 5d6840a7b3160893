use Rattle.proof_trees.proofs.RuleLemmas.{parts_found}
use Rattle.proof_trees.proofs.checking.is_by_parts.Goals as goal

pub returns-in-Meet : goal.returns-in-Meet
returns-in-Meet c credentials =
    parts_found credentials c.args.before.now c.args.step.now.who c.args.step.now.claim c.args.places.now c.in-Meet.parts
    c.claims_each.result c.in-Meet.is c.as_slice.ensures.several (rw c.as_slice.ensures.parts at c.claims_each.ensures)
