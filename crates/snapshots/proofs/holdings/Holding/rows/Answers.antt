use Rattle.std.proofs.Common.{[], subst}
use Rattle.std.specs.List.Sorted.{IsStrictlySortedBy}
use Rattle.credential_text.specs.Credential.{credential_order}
use Rattle.vaults.specs.Journal.{Vault}
use Rattle.snapshots.proofs.holdings.Holding.rows.Goals as goal

none_sorted : IsStrictlySortedBy credential_order []
unfolding IsStrictlySortedBy
none_sorted = tt

pub returns-in-None-clause-ordered : goal.returns-in-None-clause-ordered
returns-in-None-clause-ordered c = subst (λ (v : Vault). IsStrictlySortedBy credential_order v.rows) c.self.view_is (rw c.in-None.is none_sorted)
