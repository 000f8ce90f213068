use Rattle.core_c.proofs.cursors.core_hold.Given as goal

-- the call counts in the ledger of its opening
abbrev pub ghosts-hold_of : goal.ghosts-hold_of
ghosts-hold_of a = record { name = a.opening.name; parts = a.opening.parts }
