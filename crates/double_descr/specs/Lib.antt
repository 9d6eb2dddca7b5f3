-- The subject: State (what a double description holds), Starting and Adding (what its two calls
-- answer), with Steps (operations in their order). For the code's own steps: Making, ByRow, Faults,
-- Wholes.
pub mod Adding
pub mod ByRow
pub mod Faults
pub mod Making
pub mod Starting
pub mod State
pub mod Steps
pub mod Wholes
