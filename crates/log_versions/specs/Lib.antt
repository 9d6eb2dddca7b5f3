-- The subject: Plain, Hints, Written (the rules of logs as they are written), WrittenEvents,
-- Upgrade, then Laws. Worked examples: Examples. For the code's own steps: Walk.
pub mod Plain
pub mod Hints
pub mod Written
pub mod WrittenEvents
pub mod Upgrade
pub mod Laws
pub mod Walk
pub mod Examples
