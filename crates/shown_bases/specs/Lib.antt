-- The subject: Orders, then Laws. Worked examples: Examples.
pub mod Examples
pub mod Laws
pub mod Orders
