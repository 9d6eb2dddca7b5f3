-- The subject: Lower (the cone of dual vectors), Weights, Ends and Rows (the program of a weight),
-- Facets (what the search finds), Laws. Worked examples: Examples. For the code's own steps:
-- Starting, Search.
pub mod Ends
pub mod Examples
pub mod Facets
pub mod Laws
pub mod Lower
pub mod Rows
pub mod Search
pub mod Starting
pub mod Weights
