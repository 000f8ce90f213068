-- parts that pass the test can be made, and what their nodes then are
pub mod Made
-- what is left to take in when one more node is in
pub mod Taken
-- the list that starts at 7 can take in the three others
pub mod HeadedBySeven
-- lists that are ready for an event are ready for the next one after it
pub mod Ready
