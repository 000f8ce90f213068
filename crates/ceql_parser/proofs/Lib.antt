-- the terms in a list of a formula or a filter, as the row that the list is kept in
pub mod TermRows
-- what a walk over numbers of types and over names finds
pub mod TypesFound
-- a walk that stops at the first fault
pub mod FirstFound
-- the names of a formula, one part of it after the other
pub mod NamesListed
-- lists with the same names, and that faults are the same in them
pub mod NameSetLemmas
-- the attributes of a declaration in turn
pub mod RepeatedAttributes
-- sets of types, and how a name is found in them
pub mod TypeSets
-- a fault depends on which types there are alone
pub mod FaultsOfTypes
-- the first fault of the terms in a list of terms
pub mod RowFaults
-- counting up to a cap
pub mod LeavesCounted
-- statements in turn, with what those before declare
pub mod StatementsInTurn
-- a declaration without a fault is one that the schema takes
pub mod AcceptedDeclarations
-- lawful terms without a fault are checked
pub mod TermsChecked
-- what stays as a schema grows
pub mod SchemasGrown
-- lawful queries without a fault are checked, for the last schema too
pub mod QueriesChecked
-- faults, names and leaves of terms are those of their trees
pub mod TreesTold
-- statements with the same trees have the same answer
pub mod SameTrees
-- a text has one answer
pub mod TextAnswers
