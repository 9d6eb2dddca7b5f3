-- The subject: Task, Standing, Cuts, Preimages, Lines (the log as it grows), Unstarted (the logs
-- that need no start). For the code's own steps: First, Lined, LiveVectors.
pub mod Cuts
pub mod First
pub mod Lined
pub mod Lines
pub mod LiveVectors
pub mod Preimages
pub mod Standing
pub mod Task
pub mod Unstarted
