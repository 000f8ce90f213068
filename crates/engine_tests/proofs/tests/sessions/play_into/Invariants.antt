-- the count has the ledger of its opening
use Rattle.engine_tests.proofs.tests.sessions.play_into.Given as goal

abbrev pub ghosts-play : goal.ghosts-play
ghosts-play a = record { name = a.opening.name; parts = a.opening.parts }
