use Rattle.std.specs.Prelude.{map}
use Rattle.service.specs.Roster.{tenant_of}
use Rattle.service.proofs.sessions.tests.sessions_beside_workers_and_after_the_stop.Given as goal

abbrev pub ghosts-are_told_at-L-Ledger : goal.ghosts-are_told_at-L-Ledger
ghosts-are_told_at-L-Ledger g a = record { name = a.unnamed.ledger; parts = a.unnamed.parts }

abbrev pub ghosts-are_told_at-L-Naming : goal.ghosts-are_told_at-L-Naming
ghosts-are_told_at-L-Naming g a = record { table = a.unnamed.table; letters = a.unnamed.letters; rights = a.unnamed.rights; roster = map tenant_of a.roster.now }
