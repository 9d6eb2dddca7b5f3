pub mod SameVectors
pub mod Standings
pub mod Steps
pub mod Walking
pub mod Whole
pub mod WrittenEntries
