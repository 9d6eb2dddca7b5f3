pub mod Known
pub mod Cutting
pub mod TextLines
pub mod Given
pub mod Place
mod Intake
mod Taking
