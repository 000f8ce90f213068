use Rattle.set_tests.proofs.tests.listings.a_join_gives_the_later_start_first_and_the_window_cuts_the_earlier.Given as goal

-- each count has the ledger of its own blank
abbrev pub ghosts-join_of_two_is_listed-A-Ledger : goal.ghosts-join_of_two_is_listed-A-Ledger
ghosts-join_of_two_is_listed-A-Ledger g a = record { name = a.making.name; parts = a.making.parts }

abbrev pub ghosts-join_of_two_is_listed-B-Ledger : goal.ghosts-join_of_two_is_listed-B-Ledger
ghosts-join_of_two_is_listed-B-Ledger g a = record { name = a.first.name; parts = a.first.parts }

abbrev pub ghosts-join_of_two_is_listed-C-Ledger : goal.ghosts-join_of_two_is_listed-C-Ledger
ghosts-join_of_two_is_listed-C-Ledger g a = record { name = a.second.name; parts = a.second.parts }

abbrev pub ghosts-join_of_two_is_listed-D-Ledger : goal.ghosts-join_of_two_is_listed-D-Ledger
ghosts-join_of_two_is_listed-D-Ledger g a = record { name = a.third.name; parts = a.third.parts }
