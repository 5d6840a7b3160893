-- The ledger and the history are the unnamed ones.
use Rattle.std.specs.Prelude.{map}
use Rattle.service.specs.Roster.{tenant_of}
use Rattle.service.proofs.serving.serve.Given as goal

abbrev pub ghosts-serve_with-L-Ledger : goal.ghosts-serve_with-L-Ledger
ghosts-serve_with-L-Ledger g a = record { name = a.unnamed.ledger; parts = a.unnamed.parts }

abbrev pub ghosts-serve_with-L-Naming : goal.ghosts-serve_with-L-Naming
ghosts-serve_with-L-Naming g a = record { table = a.unnamed.table; letters = a.unnamed.letters; rights = a.unnamed.rights; roster = map tenant_of a.roster.now }
