pub mod Fitting
pub mod Products
pub mod Sums
