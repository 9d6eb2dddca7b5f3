-- The subject: Vectors, Inequality, Cone, Hull, TightSets, DoubleDescription, LiveList, Exactness,
-- FirstNamed, LowerImage, Image, Sparse. The laws beside them: Linear, Farkas, Duality, Dependence,
-- Generators, LiveSteps, Negatives. Worked examples: Examples.
pub mod Cone
pub mod Dependence
pub mod DoubleDescription
pub mod Duality
pub mod Exactness
pub mod Examples
pub mod Farkas
pub mod FirstNamed
pub mod Generators
pub mod Hull
pub mod Image
pub mod Inequality
pub mod Linear
pub mod LiveList
pub mod LiveSteps
pub mod LowerImage
pub mod Negatives
pub mod Sparse
pub mod TightSets
pub mod Vectors
