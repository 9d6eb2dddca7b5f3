-- The subject: Sets and Rows (representations), Live, Meets and Events (the rules of logs),
-- Converted, Alone, Laws, Checked (what the check says). Worked examples: Examples. For the code's own
-- steps: Starting, Adding, Progress, Giving.
pub mod Sets
pub mod Rows
pub mod Live
pub mod Meets
pub mod Events
pub mod Adding
pub mod Converted
pub mod Alone
pub mod Laws
pub mod Starting
pub mod Progress
pub mod Checked
pub mod Giving
pub mod Examples
