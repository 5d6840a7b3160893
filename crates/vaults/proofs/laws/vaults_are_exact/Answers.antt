use Rattle.vaults.proofs.Exactness.{vaults_exact, readers_exact}
use Rattle.vaults.proofs.laws.vaults_are_exact.Goals as goal

pub returns-clause-vaults : goal.returns-clause-vaults
returns-clause-vaults c = vaults_exact

pub returns-clause-readers : goal.returns-clause-readers
returns-clause-readers c = readers_exact
