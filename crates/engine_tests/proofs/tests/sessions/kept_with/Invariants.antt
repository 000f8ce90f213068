-- the count has the ledger of its opening
use Rattle.engine_tests.proofs.tests.sessions.kept_with.Given as goal

abbrev pub ghosts-kept_after : goal.ghosts-kept_after
ghosts-kept_after a = record { name = a.opening.name; parts = a.opening.parts }
