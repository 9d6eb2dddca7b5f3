-- The subject: Programs, with Examples; Data and Names (data and names in a field), with Shapes;
-- Reading and Sparse (what is read off); Building (what a program in a field is).
pub mod Building
pub mod Data
pub mod Examples
pub mod Names
pub mod Programs
pub mod Reading
pub mod Shapes
pub mod Sparse
