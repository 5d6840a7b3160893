use Rattle.std.specs.Prelude.{map}
use Rattle.service.specs.Roster.{tenant_of}
use Rattle.service.proofs.sessions.tests.comes_of.Given as goal

abbrev pub ghosts-ends_at-L-Ledger : goal.ghosts-ends_at-L-Ledger
ghosts-ends_at-L-Ledger g a = record { name = a.unnamed.ledger; parts = a.unnamed.parts }

abbrev pub ghosts-ends_at-L-Naming : goal.ghosts-ends_at-L-Naming
ghosts-ends_at-L-Naming g a = record { table = a.unnamed.table; letters = a.unnamed.letters; rights = a.unnamed.rights; roster = map tenant_of a.roster.now }
