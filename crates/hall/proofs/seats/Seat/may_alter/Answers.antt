use Rattle.std.proofs.Common.{◌≡◌, ◌∙◌, ℕ, List, Option, option_map, ap, rules}
use Rattle.vaults.specs.declared.changes.Change.{Change}
use Rattle.vaults.specs.declared.changes.Entry.{Entry}
use Rattle.vaults.specs.Journal.{entries_of, refusal}
use Rattle.vaults.proofs.Exactness.{refusals_own}
use Rattle.hall.specs.declared.faults.Fault.{Fault}
use Rattle.hall.specs.Fault.{vault_fault}
use Rattle.hall.proofs.seats.Seat.may_alter.Goals as goal

-- a tenant's own entries refuse what the journal refuses
refused_alike : {a : Option Fault} (journal : List Entry) (who : List ℕ) (change : Change) →
    a ≡ option_map vault_fault (refusal (entries_of who journal) who change) → a ≡ option_map vault_fault (refusal journal who change)
refused_alike journal who change own = own ∙ ap (option_map vault_fault) (refusals_own journal who change)

pub returns-in_ok-may_hold-in-Upload-clause-allowed : goal.returns-in_ok-may_hold-in-Upload-clause-allowed
returns-in_ok-may_hold-in-Upload-clause-allowed c = refused_alike c.args.book.now c.args.who.now c.args.change.now (search rules)

pub returns-in_ok-may_grant-in-Grant-clause-allowed : goal.returns-in_ok-may_grant-in-Grant-clause-allowed
returns-in_ok-may_grant-in-Grant-clause-allowed c = refused_alike c.args.book.now c.args.who.now c.args.change.now (search rules)

pub returns-in-Withdraw-clause-allowed : goal.returns-in-Withdraw-clause-allowed
returns-in-Withdraw-clause-allowed c = refused_alike c.args.book.now c.args.who.now c.args.change.now (search rules)

pub returns-in-Withdraw-2-clause-allowed : goal.returns-in-Withdraw-2-clause-allowed
returns-in-Withdraw-2-clause-allowed c = refused_alike c.args.book.now c.args.who.now c.args.change.now (search rules)

pub returns-in-Withdraw-3-clause-allowed : goal.returns-in-Withdraw-3-clause-allowed
returns-in-Withdraw-3-clause-allowed c = refused_alike c.args.book.now c.args.who.now c.args.change.now (search rules)
