use Rattle.set_tests.proofs.tests.compactions.a_held_cursor_keeps_its_answers_and_what_they_need.Given as goal

-- the count has the ledger of its opening
abbrev pub ghosts-with_a_held_cursor : goal.ghosts-with_a_held_cursor
ghosts-with_a_held_cursor g a = record { name = a.opening.name; parts = a.opening.parts }
