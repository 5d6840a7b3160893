use Rattle.std.proofs.Common.{◌∙◌, ap, sym}
use Rattle.credential_text.specs.declared.exprs.Expr.TheVariants.{Meet}
use Rattle.credential_text.proofs.exprs.Expr.try_clone.Goals as goal
use Rattle.credential_text.proofs.exprs.Expr.try_clone.Goals.{in-Ent, in-Rol, in-Link, in-Meet+in_ok-try_clone-in-Meet}

pub returns-clause-same : goal.returns-clause-same
returns-clause-same c =
    elim c.match-self.branch [
      | in-Ent w ↦ w.result-is ∙ sym w.in-Ent.is
      | in-Rol w ↦ w.result-is ∙ sym w.in-Rol.is
      | in-Link w ↦ w.result-is ∙ sym w.in-Link.is
      | in-Meet+in_ok-try_clone-in-Meet w ↦ w.result-is ∙ ap Meet w.in_ok-try_clone-in-Meet.ensures ∙ sym w.in-Meet.is
    ]
