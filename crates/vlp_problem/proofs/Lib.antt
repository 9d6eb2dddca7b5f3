pub mod CellPlaces
pub mod Numbers
pub mod Pieces
pub mod SideCount
pub mod Zero
