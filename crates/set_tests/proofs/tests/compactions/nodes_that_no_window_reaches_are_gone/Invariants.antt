use Rattle.set_tests.proofs.tests.compactions.nodes_that_no_window_reaches_are_gone.Given as goal

-- the count has the ledger of its opening
abbrev pub ghosts-with_none_held : goal.ghosts-with_none_held
ghosts-with_none_held g a = record { name = a.opening.name; parts = a.opening.parts }
