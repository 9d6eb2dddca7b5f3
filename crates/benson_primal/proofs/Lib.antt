pub mod Asked
pub mod Chained
pub mod Marked
pub mod Searched
pub mod Turned
