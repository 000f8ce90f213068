use Rattle.set_tests.proofs.tables.has_table.Given as goal

-- the count has the ledger of its opening
abbrev pub ghosts-agrees : goal.ghosts-agrees
ghosts-agrees a = record { name = a.opening.name; parts = a.opening.parts }
