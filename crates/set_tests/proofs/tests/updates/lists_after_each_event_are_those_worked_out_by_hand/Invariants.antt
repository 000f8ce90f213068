use Rattle.set_tests.proofs.tests.updates.lists_after_each_event_are_those_worked_out_by_hand.Given as goal

-- the count has the ledger of its opening
abbrev pub ghosts-lists_after_each : goal.ghosts-lists_after_each
ghosts-lists_after_each g a = record { name = a.opening.name; parts = a.opening.parts }
