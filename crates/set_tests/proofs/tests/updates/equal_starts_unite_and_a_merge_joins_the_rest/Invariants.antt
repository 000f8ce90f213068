use Rattle.set_tests.proofs.tests.updates.equal_starts_unite_and_a_merge_joins_the_rest.Given as goal

-- the count has the ledger of its opening
abbrev pub ghosts-seven_takes_in_three_in_an_arena : goal.ghosts-seven_takes_in_three_in_an_arena
ghosts-seven_takes_in_three_in_an_arena g a = record { name = a.opening.name; parts = a.opening.parts }
