use Rattle.engine_tests.proofs.tests.compactions.most.Given as goal

-- the count has the ledger of its opening
abbrev pub ghosts-most_after_compactions : goal.ghosts-most_after_compactions
ghosts-most_after_compactions a = record { name = a.opening.name; parts = a.opening.parts }
