use Rattle.core_calls.proofs.calls.over_host.Given as goal

-- the call counts in the ledger of its opening
abbrev pub ghosts-answer : goal.ghosts-answer
ghosts-answer a = record { name = a.opening.name; parts = a.opening.parts }
