pub mod Orders
pub mod Priced
pub mod Shows
pub mod Summed
