-- The subject: Tasks, Shapes, Numbers, Weights (the words of commands), with Laws and Examples;
-- Paths; Codes, Names and Text (the lines of faults), Replies and Told (which licences can be
-- told), with LineExamples. For the code's own steps: Seen.
pub mod Tasks
pub mod Numbers
pub mod Weights
pub mod Shapes
pub mod Paths
pub mod Seen
pub mod Laws
pub mod Examples
pub mod Codes
pub mod Names
pub mod Text
pub mod Replies
pub mod Told
pub mod LineExamples
