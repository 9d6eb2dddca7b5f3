-- The subject: Faults, then Laws.
pub mod Faults
pub mod Laws
