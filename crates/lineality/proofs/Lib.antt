pub mod Places
pub mod Echelon
pub mod Lineality
pub mod Masks
pub mod Marks
pub mod Reduction
pub mod Erased
pub mod Level
pub mod ExactAlong
pub mod StepsWithout
pub mod OpenPlaces
pub mod SameAlong
pub mod NegativesAlong
pub mod MeetingsWithout
pub mod Reading
mod FormExample
mod HalfPlaneExample
