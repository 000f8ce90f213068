-- whether some leaf below a number is in a set
pub mod SomeLeaf
-- sets of leaves below a size, as they are built leaf by leaf and row by row
pub mod Below
-- the stored successor is that of the definition
pub mod Reached
-- states and transitions keep what they are as the table grows
pub mod Growth
-- the class of an event
pub mod EventClasses
-- rows that the transitions tell stay told as these grow
pub mod Listed
-- the table of the states that accept
pub mod Accepting
