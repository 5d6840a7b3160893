use Rattle.pool.proofs.desk_tests.plays.played.Given as goal

abbrev pub ghosts-on_desk-L-Ledger : goal.ghosts-on_desk-L-Ledger
ghosts-on_desk-L-Ledger g a = record { name = a.unnamed.ledger; parts = a.unnamed.parts }

abbrev pub ghosts-on_desk-L-Naming : goal.ghosts-on_desk-L-Naming
ghosts-on_desk-L-Naming g a = record { table = a.unnamed.table; letters = a.unnamed.letters; rights = a.unnamed.rights; roster = a.roster.items }
