use Rattle.set_tests.proofs.tests.listings.each_union_lists_its_members_and_shares_a_node.Given as goal

-- the count has the ledger of its opening
abbrev pub ghosts-listing : goal.ghosts-listing
ghosts-listing g a = record { name = a.opening.name; parts = a.opening.parts }
