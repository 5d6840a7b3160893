use Rattle.std.proofs.Common.{ap, sym}
use Rattle.credential_text.specs.Expr.{part_expr}
use Rattle.credential_text.proofs.intersections.Part.expr.Goals as goal

pub returns-in-Rol : goal.returns-in-Rol
returns-in-Rol c = ap part_expr (sym c.in-Rol.is)
