use Rattle.pool.proofs.desk_tests.gathers.a_desk_goes_on_where_passes_are_out.Given as goal

abbrev pub ghosts-at_a_desk-L-Ledger : goal.ghosts-at_a_desk-L-Ledger
ghosts-at_a_desk-L-Ledger g a = record { name = a.unnamed.ledger; parts = a.unnamed.parts }

abbrev pub ghosts-at_a_desk-L-Naming : goal.ghosts-at_a_desk-L-Naming
ghosts-at_a_desk-L-Naming g a = record { table = a.unnamed.table; letters = a.unnamed.letters; rights = a.unnamed.rights; roster = a.roster.items }
