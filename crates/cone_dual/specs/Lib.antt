-- The subject: Fitting (a duality vector that is found), Ends (why none is), Generators (double
-- descriptions of rows).
pub mod Ends
pub mod Fitting
pub mod Generators
