use Rattle.engine_tests.proofs.tests.by_hand.found.Given as goal

-- the count has the ledger of its opening
abbrev pub ghosts-answers_after_each : goal.ghosts-answers_after_each
ghosts-answers_after_each a = record { name = a.opening.name; parts = a.opening.parts }
