pub mod Negatives
pub mod RowsOf
