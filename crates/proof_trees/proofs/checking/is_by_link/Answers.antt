use Rattle.std.proofs.Common.{◌≡◌, Some, sym}
use Rattle.std.specs.Prelude.{slice_get}
use Rattle.proof_trees.proofs.RuleLemmas.{link_found}
use Rattle.proof_trees.proofs.checking.is_by_link.Goals as goal

pub returns-then-is_claim : goal.returns-then-is_claim
returns-then-is_claim c credentials =
    let there : slice_get c.args.before.now c.args.base_place ≡ Some c.in-Some.member.now = sym c.in-Some.ensures in
    link_found credentials c.args.before.now c.args.step.now.who c.args.step.now.claim c.args.base_place c.args.role_place c.in-Link.base c.in-Link.name c.in-Some.member.now
    c.claims.result c.in-Link.is there (c.is_claim.ensures.0 c.if-is_claim.true).1 c.claims.ensures
