use Rattle.std.proofs.Common.{◌∙◌, List, sym, subst}
use Rattle.std.proofs.lemmas.Result.{err_from_is_err_and}
use Rattle.vaults.specs.declared.changes.Entry.{Entry}
use Rattle.hall.specs.declared.calls.requests.Request.TheVariants.{Vault}
use Rattle.hall.specs.declared.calls.replies.Reply.TheVariants as reply
use Rattle.hall.specs.declared.faults.Fault.TheVariants.{Memory}
use Rattle.hall.specs.Hall.{HallState, IsServed}
use Rattle.hall.proofs.Reached.{hall_of}
use Rattle.hall.proofs.Viewed.{vault_told, vault_lacks}
use Rattle.hall.proofs.halls.Hall.vault.Goals as goal

-- the book is the same as before, and so is the hall
pub returns-in_err-version : goal.returns-in_err-version
returns-in_err-version c =
    let h : HallState = hall_of c.self.inside.book c.self.inside.tenants in
    let p = err_from_is_err_and c.from_residual-in_err-version.result c.from_residual-in_err-version.ensures.1 in
    rw (p.1, p.2, c.in_err-version.ensures.only_memory, ← c.self.view_is) record {
      served = subst (λ (j : List Entry). IsServed h c.args.who Vault (reply.Refused Memory) (hall_of j c.self.inside.tenants)) (sym c.version_of.ensures.same)
          (vault_lacks h c.args.who c.in_ok-_seat._seat.now c.in_ok-_seat.ensures.here);
    }

pub returns : goal.returns
returns c =
    let h : HallState = hall_of c.self.inside.book c.self.inside.tenants in
    rw (← c.self.view_is) record {
      served = subst (λ (j : List Entry). IsServed h c.args.who Vault (reply.Vault c.new.result) (hall_of j c.self.inside.tenants)) (sym c.version_of.ensures.same)
          (vault_told h c.args.who c.in_ok-_seat._seat.now c.in_ok-_seat.ensures.here c.new.result (c.new.ensures ∙ c.in_ok-version.ensures.rows));
    }
