use Rattle.set_tests.proofs.runs.runs_are_answers.Given as goal

-- the count has the ledger of its opening
abbrev pub ghosts-agree : goal.ghosts-agree
ghosts-agree a = record { name = a.opening.name; parts = a.opening.parts }
