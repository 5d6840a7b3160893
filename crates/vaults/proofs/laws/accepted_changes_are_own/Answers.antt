use Rattle.vaults.proofs.Accepted.{held_issued, granted_others}
use Rattle.vaults.proofs.laws.accepted_changes_are_own.Goals as goal

pub returns-clause-holding : goal.returns-clause-holding
returns-clause-holding c = held_issued

pub returns-clause-granting : goal.returns-clause-granting
returns-clause-granting c = granted_others
