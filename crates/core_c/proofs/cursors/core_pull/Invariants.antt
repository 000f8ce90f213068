use Rattle.core_c.proofs.cursors.core_pull.Given as goal

-- the call counts in the ledger of its opening
abbrev pub ghosts-pull_of : goal.ghosts-pull_of
ghosts-pull_of a = record { name = a.opening.name; parts = a.opening.parts }
