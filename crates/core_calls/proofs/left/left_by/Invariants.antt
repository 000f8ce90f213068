use Rattle.core_calls.proofs.left.left_by.Given as goal

-- the call counts in the ledger of its opening
abbrev pub ghosts-nodes_left : goal.ghosts-nodes_left
ghosts-nodes_left a = record { name = a.opening.name; parts = a.opening.parts }
