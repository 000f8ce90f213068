-- the count has the ledger of its opening
use Rattle.engine_tests.proofs.tests.blocks.lines_are_written_one_by_one.Given as goal

abbrev pub ghosts-write : goal.ghosts-write
ghosts-write g a = record { name = a.opening.name; parts = a.opening.parts }
