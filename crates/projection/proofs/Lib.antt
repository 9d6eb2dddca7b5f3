pub mod Numbers
pub mod Objectives
pub mod AssociatedCells
pub mod Slices
pub mod Level
pub mod Hulls
mod Examples
pub mod Fronts
pub mod Told
pub mod Vertices
pub mod Extremes
pub mod Needed
pub mod RightProjection
mod FoundExamples
mod TextExamples
