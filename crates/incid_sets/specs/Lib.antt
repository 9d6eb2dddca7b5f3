-- The subject: Marks (a set of numbers). For the code's own steps: Words (its bits).
pub mod Marks
pub mod Words
