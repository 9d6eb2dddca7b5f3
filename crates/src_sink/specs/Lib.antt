-- The subject: Outside and Ends (what contracts say of sources and sinks), Texts, Reading (lines
-- one at a time); Memory and Edge (both of them in memory, and over std). For the code's own steps:
-- Intake.
pub mod Outside
pub mod Ends
pub mod Memory
pub mod Edge
pub mod Texts
pub mod Reading
pub mod Intake
