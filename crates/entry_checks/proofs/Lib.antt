pub mod Going
pub mod Products
pub mod Columns
pub mod MatrixEvents
pub mod StepBounds
pub mod RisingNumbers
pub mod NamedCuts
