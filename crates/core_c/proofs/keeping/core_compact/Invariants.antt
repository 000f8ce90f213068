use Rattle.core_c.proofs.keeping.core_compact.Given as goal

-- the call counts in the ledger of its opening
abbrev pub ghosts-compact_of : goal.ghosts-compact_of
ghosts-compact_of a = record { name = a.opening.name; parts = a.opening.parts }
