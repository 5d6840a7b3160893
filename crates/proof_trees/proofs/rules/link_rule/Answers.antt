use Rattle.std.proofs.Common.{subst}
use Rattle.std.proofs.lemmas.Result.{err_from_is_err_and, IfOk-from_err}
use Rattle.credential_text.specs.declared.exprs.Expr.TheVariants.{Rol, Link}
use Rattle.cred_graph.specs.Graph.{IsNode, Known}
use Rattle.cred_graph.specs.KeptExpr.{expr_lent}
use Rattle.proof_trees.proofs.PremiseLemmas.{base_missing, role_missing, missing_err, via_known}
use Rattle.proof_trees.proofs.rules.link_rule.Goals as goal
use Rattle.proof_trees.proofs.rules.link_rule.Goals.{In-Link}

-- the node's expression
node : (c : In-Link) → IsNode c.args.graph.now c.args.node (Link c.in-Link.base.now c.in-Link.name.now)
node c = subst (λ x. IsNode c.args.graph.now c.args.node (expr_lent x)) c.in-Link.is c.expr.ensures.node

known : (c : In-Link) → Known c.args.graph.now c.args.member.now (Rol c.in-Link.base.now)
    × Known c.args.graph.now c.args.who.now (Rol (record { owner = c.args.member.now; name = c.in-Link.name.now }))
known c = via_known c.args.graph.now c.args.node c.args.who.now c.args.member.now c.in-Link.base.now c.in-Link.name.now (node c) c.requires.fits

pub number_in-requires-clause-known : goal.number_in-requires-clause-known
number_in-requires-clause-known c = (known (goal.at.number_in-requires-clause-known c).In-Link).0

pub number_in-requires-2-clause-known : goal.number_in-requires-2-clause-known
number_in-requires-2-clause-known c = (known (goal.at.number_in-requires-2-clause-known c).In-Link).1

pub returns : goal.returns
returns c = record {
  by_reason = (
    c.in-Link.base.now,
    c.in-Link.name.now,
    node (goal.at.returns c).In-Link,
    c.in_ok-base_number.ensures.claims,
    c.in_ok-role_number.ensures.claims,
  );
  missing = tt;
}

pub returns-in_err-base_number : goal.returns-in_err-base_number
returns-in_err-base_number c =
    let p = err_from_is_err_and c.from_residual.result c.from_residual.ensures.1 in
    let h = c.in_err-base_number.ensures.missing in
    let missing =
    missing_err _ c.from_residual.result p.0 c.in_err-base_number.field-0.0 p.1 p.2
    (base_missing c.args.graph.now c.args.draft.now c.args.node c.args.who.now c.in_err-base_number.field-0.0 c.args.member.now c.in-Link.base.now c.in-Link.name.now (node (goal.at.returns-in_err-base_number c).In-Link) h.0 h.1) in
    record { by_reason = IfOk-from_err c.from_residual.result _ c.from_residual.ensures.0; missing = missing }

pub returns-in_err-role_number : goal.returns-in_err-role_number
returns-in_err-role_number c =
    let p = err_from_is_err_and c.from_residual-in_err-role_number.result c.from_residual-in_err-role_number.ensures.1 in
    let h = c.in_err-role_number.ensures.missing in
    let missing =
    missing_err _ c.from_residual-in_err-role_number.result p.0 c.in_err-role_number.field-0.0 p.1 p.2
    (role_missing c.args.graph.now c.args.draft.now c.args.node c.args.who.now c.in_err-role_number.field-0.0 c.args.member.now c.in-Link.base.now c.in-Link.name.now (node (goal.at.returns-in_err-role_number c).In-Link) h.0 h.1) in
    record { by_reason = IfOk-from_err c.from_residual-in_err-role_number.result _ c.from_residual-in_err-role_number.ensures.0; missing = missing }
