use Rattle.std.proofs.Common.{◌∙◌, sym, ap}
use Rattle.vaults.specs.declared.changes.Change.TheVariants.{Upload, Withdraw}
use Rattle.vaults.proofs.changes.Change.try_clone.Goals as goal
use Rattle.vaults.proofs.changes.Change.try_clone.Goals.{in-Upload+in_ok-try_clone-in-Upload}
use Rattle.vaults.proofs.changes.Change.try_clone.Goals.{in-Withdraw+in_ok-try_clone-in-Withdraw}
use Rattle.vaults.proofs.changes.Change.try_clone.Goals.{in-Grant, in-Revoke, in-GrantAll, in-RevokeAll}

pub returns-clause-copy : goal.returns-clause-copy
returns-clause-copy c =
    elim c.match-self.branch [
      | in-Upload+in_ok-try_clone-in-Upload w ↦
          w.result-is ∙ ap Upload w.in_ok-try_clone-in-Upload.ensures.same ∙ sym w.in-Upload.is
      | in-Withdraw+in_ok-try_clone-in-Withdraw w ↦
          w.result-is ∙ ap Withdraw w.in_ok-try_clone-in-Withdraw.ensures.same ∙ sym w.in-Withdraw.is
      | in-Grant w ↦ w.result-is ∙ sym w.in-Grant.is
      | in-Revoke w ↦ w.result-is ∙ sym w.in-Revoke.is
      | in-GrantAll w ↦ w.result-is ∙ sym w.in-GrantAll.is
      | in-RevokeAll w ↦ w.result-is ∙ sym w.in-RevokeAll.is
    ]
