pub mod Complete
pub mod Lines
pub mod Laws
