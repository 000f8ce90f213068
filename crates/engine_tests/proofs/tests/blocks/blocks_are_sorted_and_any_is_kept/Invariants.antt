-- the count has the ledger of its opening
use Rattle.engine_tests.proofs.tests.blocks.blocks_are_sorted_and_any_is_kept.Given as goal

abbrev pub ghosts-sorted : goal.ghosts-sorted
ghosts-sorted g a = record { name = a.opening.name; parts = a.opening.parts }
