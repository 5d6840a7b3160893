use Rattle.std.proofs.Common.{◌∙◌, sym}
use Rattle.credential_text.specs.declared.exprs.Expr.TheVariants.{Ent}
use Rattle.credential_text.specs.Equality.{exprs_decided}
use Rattle.proof_trees.proofs.RuleLemmas.{leaf_found}
use Rattle.proof_trees.proofs.checking.is_by_rule.Goals as goal

pub returns-in-Leaf : goal.returns-in-Leaf
returns-in-Leaf c =
    let step = c.args.step.now in
    let decided = exprs_decided step.claim (Ent step.who) in
    leaf_found c.args.credentials.now c.args.before.now step.who step.claim step.rule c.eq.result c.in-Leaf.is
    (λ e. decided.0 (sym c.eq.ensures ∙ e), λ h. c.eq.ensures ∙ decided.1 h)
