use Rattle.engine_tests.proofs.tests.compactions.held.Given as goal

-- the count has the ledger of its opening
abbrev pub ghosts-held_over_a_compaction : goal.ghosts-held_over_a_compaction
ghosts-held_over_a_compaction a = record { name = a.opening.name; parts = a.opening.parts }
