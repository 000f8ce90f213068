use Rattle.core_c.proofs.feeding.core_feed_some.Given as goal

-- the call counts in the ledger of its opening
abbrev pub ghosts-feed_some_of : goal.ghosts-feed_some_of
ghosts-feed_some_of a = record { name = a.opening.name; parts = a.opening.parts }
