-- The subject: Read and Lines (rows and sparse rows as tables), System, Answers, Eliminate,
-- Complement and Sums (what the calls answer). Worked example: ComplementExamples. For the code's
-- own steps: Clear, Pivot.
pub mod Answers
pub mod Clear
pub mod Complement
pub mod ComplementExamples
pub mod Eliminate
pub mod Lines
pub mod Pivot
pub mod Read
pub mod Sums
pub mod System
pub mod Tableau
