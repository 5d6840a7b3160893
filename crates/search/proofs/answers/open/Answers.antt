-- An entity's node opens: its own entity is a solution of it.
use Rattle.std.proofs.Common.{List, ℕ, ◌≡◌, ◌∙◌, ap, refl, sym, subst, Some, slice_get}
use Rattle.std.proofs.lemmas.Option.{same_Some}
use Rattle.std.proofs.lemmas.Result.{on_ok_weaker}
use Rattle.credential_text.specs.declared.exprs.Expr.{Expr}
use Rattle.credential_text.specs.declared.exprs.Expr.TheVariants.{Ent, Link}
use Rattle.cred_graph.specs.declared.solutions.Reason.TheVariants as reason
use Rattle.cred_graph.proofs.NumberLemmas.{entity_is}
use Rattle.cred_graph.specs.Graph.{GraphState}
use Rattle.cred_graph.specs.KeptExpr.{expr_lent}
use Rattle.search.specs.Answers.{Opens, Solves, own_rows}
use Rattle.search.proofs.answers.open.Goals as goal
use Rattle.search.proofs.answers.open.Goals.{After-expr}

-- the expression at the node
there : (c : After-expr) → slice_get c.args.found.now.graph.nodes c.args.node ≡ Some (expr_lent c.expr.result)
there c = subst (λ (g : GraphState). slice_get g.nodes c.args.node ≡ Some (expr_lent c.expr.result)) c.graph.ensures.graph c.expr.ensures.node

pub returns-in-Ent : goal.returns-in-Ent
returns-in-Ent c =
    let nodes = c.args.found.now.graph.nodes in
    let at = there (goal.at.returns-in-Ent c).After-expr ∙ ap (λ x. Some (expr_lent x)) c.in-Ent.is in
    let named = entity_is nodes c.short-who.result c.in-Ent._who.now (ap (slice_get nodes) c.short-who.ensures ∙ at) in
    on_ok_weaker c.solve.result
    (λ solves e there. subst (λ (x : Expr). Opens (own_rows c.args.snapshot.now.vaults x) c.args.found.now c.solve.new.found c.args.node x) (same_Some (Ent c.in-Ent._who.now) e (sym at ∙ there))
    (subst (λ (who : List ℕ). Solves c.args.found.now c.solve.new.found c.args.node who reason.Leaf) named solves))
    c.solve.ensures

pub solve-requires : goal.solve-requires
solve-requires c =
    let nodes = c.args.found.now.graph.nodes in
    let at = there (goal.at.solve-requires c).After-expr ∙ ap (λ x. Some (expr_lent x)) c.in-Ent.is in
    let is = ap (slice_get nodes) c.short-who.ensures ∙ at in
    record { node = c.requires.node; entity = (c.in-Ent._who.now, is); reason = tt; fits = at ∙ ap (λ (who : List ℕ). Some (Ent who)) (sym (entity_is nodes c.short-who.result c.in-Ent._who.now is)) }

pub returns-in-Link : goal.returns-in-Link
returns-in-Link c =
    on_ok_weaker c.ask_role.result
    (λ asks e at. subst (λ (x : Expr). Opens (own_rows c.args.snapshot.now.vaults x) c.args.found.now c.ask_role.new.found c.args.node x) (same_Some (Link c.in-Link.base.now c.in-Link._name.now) e (sym (there (goal.at.returns-in-Link c).After-expr ∙ ap (λ x. Some (expr_lent x)) c.in-Link.is) ∙ at))
    (c.ask_role.new.found, asks, refl))
    c.ask_role.ensures
