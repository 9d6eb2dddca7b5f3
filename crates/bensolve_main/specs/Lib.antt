-- The subject: World (the outside of a run), Reading (the texts), Tasks (how a task reads, and what
-- it says of what was read), Check, Relog and Sample (three of them), Deliver (how a reply is
-- written), Outcome (the stages together), Answerable (when there is an answer), Accepted (what a
-- command that checks logs says of the log of another). For the code's own steps: Stages.
pub mod World
pub mod Deliver
pub mod Reading
pub mod Check
pub mod Relog
pub mod Sample
pub mod Tasks
pub mod Outcome
pub mod Answerable
pub mod Accepted
pub mod Stages
