-- the count has the ledger of its opening
use Rattle.engine_tests.proofs.tests.blocks.a_fault_ends_the_blocks.Given as goal

abbrev pub ghosts-write : goal.ghosts-write
ghosts-write g a = record { name = a.opening.name; parts = a.opening.parts }
