-- The subject: Upgrades (what an upgrade is). For the code's own steps: Repeats, Vectors, Walk.
pub mod Repeats
pub mod Upgrades
pub mod Vectors
pub mod Walk
