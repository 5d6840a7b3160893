use Rattle.std.proofs.Common.{◌∙◌}
use Rattle.vaults.proofs.Orders.{credentials_exact}
use Rattle.vaults.proofs.Places.{has_searched}
use Rattle.vaults.proofs.blocks.Block.has.Goals as goal

pub returns : goal.returns
returns c = c.is_ok.ensures.value ∙ has_searched credentials_exact c.args.self.now c.rows.result.now c.args.credential.now c.place_of.result c.rows.ensures.rows c.place_of.ensures
