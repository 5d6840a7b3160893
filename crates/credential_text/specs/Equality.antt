-- What `==` finds of expressions.
use Rattle.std.proofs.Common.{◌≡◌, ap, rules, IsTrue}
use Rattle.std.specs.Bool.{Decides}
use Rattle.credential_text.specs.declared.exprs.Expr.{Expr}
use Rattle.credential_text.specs.declared.exprs.Expr.TheVariants.{Ent, Rol, Link, Meet}
use Rattle.credential_text.specs.contracts.exprs.ExprPartialEq.TheImpl as expr
use Rattle.credential_text.specs.Part.{same_parts}
use Rattle.credential_text.specs.PartOrder.{same_parts_tell, same_parts_found}

-- two expressions are found the same exactly where they are equal
pub exprs_decided : (e f : Expr) → Decides (expr.ghosts.eq e f) (e ≡ f)
exprs_decided (Ent e) (Ent f) = search rules
exprs_decided (Rol e) (Rol f) = search rules
exprs_decided (Link e m) (Link f n) = search rules
exprs_decided (Meet ps) (Meet qs) = (
  λ (found : IsTrue (same_parts ps qs)). ap Meet (same_parts_tell ps qs found),
  λ (same : Meet ps ≡ Meet qs). let parts : ps ≡ qs = cc in same_parts_found ps qs parts,
)
exprs_decided e f = search rules
