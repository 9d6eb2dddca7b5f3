-- The subject: Cells (matrices), Cones, Sides (the inequalities of the bounds, and what is feasible), Values (the numbers
-- of a problem in order), FileSizes (which sizes a file may have).
pub mod Cells
pub mod Cones
pub mod FileSizes
pub mod Sides
pub mod Values
