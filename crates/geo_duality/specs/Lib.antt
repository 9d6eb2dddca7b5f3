-- The subject: Facets, Coupling, and Exchange with Rows (the row of a point or direction), each of
-- one call.
pub mod Coupling
pub mod Exchange
pub mod Facets
pub mod Rows
