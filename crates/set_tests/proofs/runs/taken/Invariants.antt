use Rattle.set_tests.proofs.runs.taken.Given as goal

-- the count has the ledger of its opening
abbrev pub ghosts-counted : goal.ghosts-counted
ghosts-counted a = record { name = a.opening.name; parts = a.opening.parts }
