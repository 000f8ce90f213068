use Rattle.core_cli.proofs.main.Given as goal

-- the ledger of the steps is the one of its opening
abbrev pub ghosts-run : goal.ghosts-run
ghosts-run a = record { name = a.opening.name; parts = a.opening.parts }
