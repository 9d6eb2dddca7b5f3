-- The subject: Logs of recession (the log that is made). For the code's own steps: Search, Chain.
pub use Rattle.recession.specs.Logs
pub mod Chain
pub mod Search
