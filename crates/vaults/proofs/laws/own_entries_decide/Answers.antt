use Rattle.vaults.proofs.Exactness.{holding_own, granting_own, publishing_own, vaults_own, readers_own, grant_counts_own, refusals_own}
use Rattle.vaults.proofs.laws.own_entries_decide.Goals as goal

pub returns-clause-holding : goal.returns-clause-holding
returns-clause-holding c = holding_own

pub returns-clause-granting : goal.returns-clause-granting
returns-clause-granting c = granting_own

pub returns-clause-publishing : goal.returns-clause-publishing
returns-clause-publishing c = publishing_own

pub returns-clause-vaults : goal.returns-clause-vaults
returns-clause-vaults c = vaults_own

pub returns-clause-readers : goal.returns-clause-readers
returns-clause-readers c = readers_own

pub returns-clause-counts : goal.returns-clause-counts
returns-clause-counts c = grant_counts_own

pub returns-clause-refusals : goal.returns-clause-refusals
returns-clause-refusals c = refusals_own
