-- The subject: Base and Trails (what a file and a duality vector fix), Steps, Settings,
-- Dictionaries, Generators, Quotients, Products and Licence (when an overflow is licensed),
-- Preimages, Turns (why outer approximation ends), Laws; Faults (which licence a fault becomes),
-- Told (the same of double descriptions). For the steps of the crates above: Pairs. Worked
-- examples: Examples, PairExamples, ImageExamples, LineExamples, FeasibleExamples, ConeExamples.
pub mod Steps
pub mod Base
pub mod Trails
pub mod Preimages
pub mod Settings
pub mod Dictionaries
pub mod Generators
pub mod Quotients
pub mod Products
pub mod Licence
pub mod Laws
pub mod Turns
pub mod Faults
pub mod Pairs
pub mod Told
pub mod Examples
pub mod PairExamples
pub mod ImageExamples
pub mod LineExamples
pub mod FeasibleExamples
pub mod ConeExamples
