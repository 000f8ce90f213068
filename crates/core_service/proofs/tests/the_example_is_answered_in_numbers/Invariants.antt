use Rattle.core_service.proofs.tests.the_example_is_answered_in_numbers.Given as goal

-- the count has the ledger of its opening
abbrev pub ghosts-put_all : goal.ghosts-put_all
ghosts-put_all g a = record { name = a.opening.name; parts = a.opening.parts }
