-- The subject: Lines, Without (vectors without the places of lines), Exactness, then Laws and Steps
-- (what is proved of them). Worked examples: Examples.
pub mod Lines
pub mod Without
pub mod Exactness
pub mod Laws
pub mod Steps
pub mod Examples
