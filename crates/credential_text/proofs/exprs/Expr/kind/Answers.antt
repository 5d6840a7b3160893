use Rattle.std.proofs.Common.{ap, sym}
use Rattle.credential_text.specs.Expr.{expr_kind}
use Rattle.credential_text.proofs.exprs.Expr.kind.Goals as goal

pub returns-in-Link : goal.returns-in-Link
returns-in-Link c = ap expr_kind (sym c.in-Link.is)

pub returns-in-Meet : goal.returns-in-Meet
returns-in-Meet c = ap expr_kind (sym c.in-Meet.is)
