use Rattle.std.proofs.Common.{◌≡◌, ◌∙◌, ℕ, Some, take, sym, refl, true≢false, arith}
use Rattle.std.specs.Prelude.{slice_get}
use Rattle.std.proofs.lemmas.Option.{slice_get_read, slice_get_within}
use Rattle.proof_trees.specs.declared.steps.Step.{Step}
use Rattle.proof_trees.specs.Proof.{IsBy}
use Rattle.proof_trees.proofs.RuleLemmas.{never}
use Rattle.proof_trees.proofs.Taken.{up_to}
use Rattle.proof_trees.proofs.checking.are_by_rules.Goals as goal

pub loop-i-preserved : goal.loop-i-preserved
loop-i-preserved c =
    let at : slice_get c.args.steps.now c.loop-i.i ≡ Some c.index-steps-i.result = slice_get_read c.args.steps.now _ c.loop-i.i c.index-steps-i.result refl c.loop-i-test.true c.index-steps-i.is in
    up_to (λ (k : ℕ) (s : Step). IsBy c.args.credentials.now (take k c.args.steps.now) s.who s.claim s.rule) c.args.steps.now c.loop-i.i c.index-steps-i.result at
    c.loop-i.invariant (c.is_by_rule.ensures.0 c.if-not-is_by_rule.false)

pub returns-then-not-is_by_rule : goal.returns-then-not-is_by_rule
returns-then-not-is_by_rule c =
    let at : slice_get c.args.steps.now c.loop-i.i ≡ Some c.index-steps-i.result = slice_get_read c.args.steps.now _ c.loop-i.i c.index-steps-i.result refl c.loop-i-test.true c.index-steps-i.is in
    never (λ by_rules. true≢false (sym (c.is_by_rule.ensures.1 (by_rules c.loop-i.i c.index-steps-i.result at)) ∙ c.if-not-is_by_rule.true))

pub returns : goal.returns
returns c =
    (λ e i s at. c.loop-i.invariant i s (omega (arith, slice_get_within c.args.steps.now i s at, c.loop-i-test.false)) at, λ h. refl)
