use Rattle.vaults.proofs.Orders.{names_exact}
use Rattle.vaults.proofs.Places.{place_found}
use Rattle.vaults.proofs.name_sets.place_of.Goals as goal

pub returns : goal.returns
returns c = place_found names_exact c.args.names.now c.args.name.now _ c.requires c.binary_search.ensures.bound c.binary_search.ensures.position
