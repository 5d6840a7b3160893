use Rattle.pool.specs.Histories.{item_of}
use Rattle.pool.proofs.keepers.Keeper.tell.Given as goal

abbrev pub ghosts-tell_as : goal.ghosts-tell_as
ghosts-tell_as g a = record { item = item_of a.front.now.name a.noted.now }
