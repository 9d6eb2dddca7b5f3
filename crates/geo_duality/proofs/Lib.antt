pub mod Dual
pub mod FacetRows
pub mod Firsts
pub mod MarkedSoFar
pub mod TightPlaces
