-- The expression that a graph keeps, and the one that it lends
use Rattle.credential_text.specs.declared.exprs.Expr.{Expr}
use Rattle.credential_text.specs.declared.exprs.Expr.TheVariants.{Ent, Rol, Link, Meet}
use Rattle.cred_graph.specs.declared.kept_exprs.Kept.{Kept}
use Rattle.cred_graph.specs.declared.kept_exprs.Kept.TheVariants as kept
use Rattle.cred_graph.specs.declared.node_exprs.NodeExpr.{NodeExpr}
use Rattle.cred_graph.specs.declared.node_exprs.NodeExpr.TheVariants as lent

abbrev pub expr_kept : Kept → Expr
expr_kept (kept.Ent who) = Ent who
expr_kept (kept.Far expr) = expr.value

abbrev pub expr_lent : NodeExpr → Expr
expr_lent (lent.Ent who) = Ent who.now
expr_lent (lent.Rol role) = Rol role.now
expr_lent (lent.Link base name) = Link base.now name.now
expr_lent (lent.Meet parts) = Meet parts.now
