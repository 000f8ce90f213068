-- The count has the ledger of its opening.
use Rattle.engine_tests.proofs.tests.runs.taken.Given as goal

abbrev pub ghosts-run_over : goal.ghosts-run_over
ghosts-run_over a = record { name = a.opening.name; parts = a.opening.parts }
