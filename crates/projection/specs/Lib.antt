-- The subject: Associated, then Laws; Found, Right, Text. Worked examples: Examples, FoundExamples,
-- TextExamples. For the code's own steps: Levels.
pub mod Associated
pub mod Laws
pub mod Examples
pub mod Found
pub mod Levels
pub mod Right
pub mod FoundExamples
pub mod Text
pub mod TextExamples
