pub mod Thinned
pub mod Faces
pub mod Places
pub mod Pinned
pub mod LinedCones
pub mod Needed
pub mod NeededSides
pub mod Facets
pub mod FacetsAlong
pub mod Weights
pub mod Slices
pub mod Dropped
pub mod Scaled
mod Examples
