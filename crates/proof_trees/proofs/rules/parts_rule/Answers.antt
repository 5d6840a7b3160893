use Rattle.std.proofs.Common.{◌≡◌, ◌∙◌, sym, subst, All, List}
use Rattle.std.proofs.lemmas.Result.{err_from_is_err_and, IfOk-from_err}
use Rattle.credential_text.specs.declared.intersections.Part.{Part}
use Rattle.credential_text.specs.Expr.{part_expr}
use Rattle.cred_graph.specs.Graph.{IsNode, Known}
use Rattle.cred_graph.specs.KeptExpr.{expr_lent}
use Rattle.proof_trees.specs.Draft.{IsMissingPart}
use Rattle.proof_trees.proofs.PremiseLemmas.{part_missing, missing_err}
use Rattle.proof_trees.proofs.rules.parts_rule.Goals as goal

pub part_numbers-requires-clause-known : goal.part_numbers-requires-clause-known
part_numbers-requires-clause-known c =
    let node = subst (λ x. IsNode c.args.graph.now c.args.node (expr_lent x)) c.in-Meet.is c.expr.ensures.node in
    let (parts, again, each) = c.requires.fits in
    let lists : parts ≡ c.in-Meet.parts.now = cc in
    subst (λ (ps : List Part). All (λ p. Known c.args.graph.now c.args.who.now (part_expr p)) ps) (lists ∙ sym c.as_slice-parts.ensures.parts) each

pub returns-in_err-numbers : goal.returns-in_err-numbers
returns-in_err-numbers c =
    let p = err_from_is_err_and c.from_residual.result c.from_residual.ensures.1 in
    let node = subst (λ x. IsNode c.args.graph.now c.args.node (expr_lent x)) c.in-Meet.is c.expr.ensures.node in
    let missed = subst (λ (ps : List Part). IsMissingPart c.args.graph.now c.args.draft.now ps c.args.who.now c.in_err-numbers.field-0.0)
    c.as_slice-parts.ensures.parts c.in_err-numbers.ensures.missing in
    let missing =
    missing_err _ c.from_residual.result p.0 c.in_err-numbers.field-0.0 p.1 p.2
    (part_missing c.args.graph.now c.args.draft.now c.args.node c.args.who.now c.in_err-numbers.field-0.0 c.in-Meet.parts.now node missed) in
    record { by_reason = IfOk-from_err c.from_residual.result _ c.from_residual.ensures.0; missing = missing }
