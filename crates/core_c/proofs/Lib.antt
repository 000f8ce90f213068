-- In reading order.
-- what walks over a handle name
pub mod Walking
-- a box apart from its type
mod Apart
-- a handle
mod Handles
-- what an outcome is in place of another
mod Outcomes
