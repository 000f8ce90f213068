-- The count has the ledger of its opening.
use Rattle.program_tests.proofs.tests.commands.late.answered.Given as goal

abbrev pub ghosts-run_over : goal.ghosts-run_over
ghosts-run_over a = record { name = a.opening.name; parts = a.opening.parts }
