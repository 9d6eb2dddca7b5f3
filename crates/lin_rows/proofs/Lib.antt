pub mod Building
mod ComplementExample
pub mod Complements
pub mod Eliminating
pub mod EliminationEnds
pub mod Errors
pub mod Lists
pub mod ManyLines
pub mod Merging
pub mod PivotRows
pub mod Pivoted
pub mod Places
pub mod SpotLists
pub mod Summing
pub mod Sweeping
pub mod Views
pub mod Wide
