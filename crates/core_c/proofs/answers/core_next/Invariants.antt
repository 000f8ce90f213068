use Rattle.core_c.proofs.answers.core_next.Given as goal

-- the call counts in the ledger of its opening
abbrev pub ghosts-next_of : goal.ghosts-next_of
ghosts-next_of a = record { name = a.opening.name; parts = a.opening.parts }
