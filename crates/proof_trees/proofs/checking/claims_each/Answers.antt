use Rattle.std.proofs.Common.{◌∙◌, ◌<◌, ℕ, List, length, sym, subst, arith, true≢false, get_or}
use Rattle.credential_text.specs.declared.intersections.Part.{Part}
use Rattle.credential_text.specs.Expr.{part_expr}
use Rattle.proof_trees.specs.declared.steps.Step.{Step}
use Rattle.proof_trees.specs.Proof.{Claims}
use Rattle.proof_trees.proofs.RuleLemmas.{never}
use Rattle.proof_trees.proofs.Zipped.{zip_length, zip_at, zip_more}
use Rattle.proof_trees.proofs.checking.claims_each.Goals as goal

abbrev claimed_in : List Step → List ℕ → ℕ → Part → Type 0
claimed_in before who place part = Claims before place who (part_expr part)

pub returns-then-places-parts : goal.returns-then-places-parts
returns-then-places-parts c = never (λ each. c.if-places-parts.true (zip_length (claimed_in c.args.before.now c.args.who.now) c.args.places.now c.args.parts.now each))

pub returns-then-not-claims : goal.returns-then-not-claims
returns-then-not-claims c =
    let there : c.loop-i.i < length c.args.places.now = omega (arith, c.loop-i-test.true, c.if-places-parts.false) in
    let asked = rw c.expr.ensures at c.claims.ensures in
    never (λ each. true≢false (sym (asked.1 (subst (claimed_in c.args.before.now c.args.who.now (get_or c.args.places.now c.loop-i.i 0)) (sym c.index-parts-i.is)
    (zip_at (claimed_in c.args.before.now c.args.who.now) c.args.places.now c.args.parts.now c.loop-i.i 0 c.index-parts-i.result each there))) ∙ c.if-not-claims.true))

pub loop-i-preserved : goal.loop-i-preserved
loop-i-preserved c =
    let there : c.loop-i.i < length c.args.places.now = omega (arith, c.loop-i-test.true, c.if-places-parts.false) in
    let asked = rw c.expr.ensures at c.claims.ensures in
    let here : claimed_in c.args.before.now c.args.who.now (get_or c.args.places.now c.loop-i.i 0) (get_or c.args.parts.now c.loop-i.i c.index-parts-i.result) =
    subst (claimed_in c.args.before.now c.args.who.now (get_or c.args.places.now c.loop-i.i 0)) c.index-parts-i.is (asked.0 c.if-not-claims.false) in
    zip_more (claimed_in c.args.before.now c.args.who.now) c.args.places.now c.args.parts.now c.loop-i.i 0 c.index-parts-i.result c.loop-i.invariant there c.loop-i-test.true here
