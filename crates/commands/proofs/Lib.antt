pub mod HeldLists
pub mod NumberWords
pub mod WeightWords
pub mod Worked
pub mod WorkedLines
mod Written
