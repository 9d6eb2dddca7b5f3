-- The subject: Faces, Facets, Projection, Dropped, Scaled (sets and their slices), Lined and Needed
-- (both representations), each with its laws. Worked examples: Examples.
pub mod Faces
pub mod Facets
pub mod Lined
pub mod Needed
pub mod Projection
pub mod Dropped
pub mod Scaled
pub mod Examples
