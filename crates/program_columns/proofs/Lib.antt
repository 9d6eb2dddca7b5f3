pub mod Assembled
pub mod BensonRows
pub mod Entered
pub mod GivenRows
pub mod Listed
pub mod Multiples
