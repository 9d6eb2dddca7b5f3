-- The subject: Sets (what is made), Made (the problems), Laws (their projections are the sets).
-- Worked examples: Examples.
pub mod Sets
pub mod Made
pub mod Laws
pub mod Examples
