use Rattle.std.proofs.Common.{sym, subst}
use Rattle.std.proofs.lemmas.Result.{IfOk-weaker, IfErr-weaker}
use Rattle.cred_graph.specs.Graph.{IsNode, IsSolution}
use Rattle.proof_trees.proofs.drafts.Draft.number_in.Goals as goal

pub number-requires-clause-solution : goal.number-requires-clause-solution
number-requires-clause-solution c =
    let (n, node, solution) = c.requires.known in
    subst (λ m. IsSolution c.args.graph.now m c.args.who.now) (c.node.ensures.graph.one_node n c.in-Some.node c.args.expr.now node c.in-Some.ensures.node) solution

pub returns : goal.returns
returns c = record {
  claims = IfOk-weaker c.number.result _ _ (λ number claims. claims c.args.expr.now c.in-Some.ensures.node) c.number.ensures.claims;
  missing = IfErr-weaker c.number.result _ _ (λ f missing. (subst (λ n. IsNode c.args.graph.now n c.args.expr.now) (sym missing.0) c.in-Some.ensures.node, missing.1)) c.number.ensures.missing;
}
