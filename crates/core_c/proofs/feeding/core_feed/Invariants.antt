use Rattle.core_c.proofs.feeding.core_feed.Given as goal

-- the call counts in the ledger of its opening
abbrev pub ghosts-feed_of : goal.ghosts-feed_of
ghosts-feed_of a = record { name = a.opening.name; parts = a.opening.parts }
