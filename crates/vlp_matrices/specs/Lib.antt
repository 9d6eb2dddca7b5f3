-- The subject: Matrices.
pub mod Matrices
