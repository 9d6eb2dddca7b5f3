-- The subject: Solving (what a solution is, and why there may be none), Replies, Accepted, Agree,
-- Own. For the code's own steps: Ends, Named.
pub mod Ends
pub mod Named
pub mod Own
pub mod Solving
pub mod Accepted
pub mod Replies
pub mod Agree
