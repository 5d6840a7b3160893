use Rattle.vaults.proofs.Exactness.{names_read_exact, views_of_names_read, views_exact}
use Rattle.vaults.proofs.laws.views_are_exact.Goals as goal

pub returns-clause-names : goal.returns-clause-names
returns-clause-names c = names_read_exact

pub returns-clause-vaults : goal.returns-clause-vaults
returns-clause-vaults c = views_of_names_read

pub returns-clause-credentials : goal.returns-clause-credentials
returns-clause-credentials c = views_exact
