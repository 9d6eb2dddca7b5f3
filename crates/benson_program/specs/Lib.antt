-- The subject: Ends (what the calls answer of both programs), Cuts, Preimages and Wholes (what is
-- read off), Laws (what the ends show of a file). For the code's own steps: Written.
pub mod Cuts
pub mod Ends
pub mod Laws
pub mod Preimages
pub mod Wholes
pub mod Written
