pub mod Ends
pub mod Optima
pub mod Ranks
pub mod Solving
pub mod Whole
mod Worked
