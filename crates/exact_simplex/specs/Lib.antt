-- The subject: Ends (what the solution of a linear program answers), Hint (a first basis), GoingOn
-- (what is kept for the next program). For the code's own steps: Program, Beginnings, Phase,
-- Candidates, Ratios, Driving, Keeping, Refused.
pub mod Beginnings
pub mod Candidates
pub mod Driving
pub mod Ends
pub mod Hint
pub mod GoingOn
pub mod Keeping
pub mod Phase
pub mod Program
pub mod Ratios
pub mod Refused
