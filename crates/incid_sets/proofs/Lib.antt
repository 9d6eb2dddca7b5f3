pub mod Bits
pub mod Shared
pub mod Sets
pub mod Sizes
pub mod Next
pub mod Kept
