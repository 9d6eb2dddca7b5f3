-- The subject: Sets (which lists hold a number), Weighing (what is least for weights, and for which
-- weights a point is), Stages (which products are taken, and where that ends), Text, Laws. Worked
-- examples: Examples. For the code's own steps: Walk.
pub mod Sets
pub mod Weighing
pub mod Stages
pub mod Walk
pub mod Laws
pub mod Text
pub mod Examples
