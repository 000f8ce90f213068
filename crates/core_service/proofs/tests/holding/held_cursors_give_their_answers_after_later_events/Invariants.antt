use Rattle.core_service.proofs.tests.holding.held_cursors_give_their_answers_after_later_events.Given as goal

-- the count has the ledger of its opening
abbrev pub ghosts-put_all : goal.ghosts-put_all
ghosts-put_all g a = record { name = a.opening.name; parts = a.opening.parts }
