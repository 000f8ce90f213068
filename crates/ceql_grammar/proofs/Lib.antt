-- which tests of tokens exclude one another
pub mod ExclusiveTests
-- what it means that a reader is exact for a rule
pub mod RuleReaders
-- readers that call themselves
pub mod Fixpoints
-- readers after a word, between two signs, and again and again
pub mod ReaderForms
-- predicates are read exactly
pub mod PredicateRules
-- filters are read exactly
pub mod FilterRules
-- names and postfixes are read exactly
pub mod NameRules
-- formulas are read exactly, parentheses being read by a given reader
pub mod SequenceRules
-- sequences, alternatives and whole formulas are read exactly
pub mod FormulaRules
-- declarations are read exactly
pub mod DeclarationRules
-- the parts of SELECT are read exactly
pub mod SelectRules
-- statements are read exactly
pub mod StatementRules
-- whole texts are read exactly, so a text has one reading
pub mod TextRules
-- steps of loops that read a rule again and again
pub mod RepeatedReading
-- each loop of the reading functions is one step and then the loop again
pub mod LoopRules
-- what the exits and turns of reading functions need
pub mod LoopExits
-- what reading functions need that put values behind a list
pub mod InPlaceReading
-- a list of terms in one node, and a list with one member
pub mod JoinedTerms
-- the digits of a number and the bytes of a string, one after the other
pub mod NumbersAndStrings
-- how many parentheses are open, token by token
pub mod Depths
-- tokens have one answer
pub mod AnswerRules
-- the statements of a text are lawful
pub mod LawfulRules
