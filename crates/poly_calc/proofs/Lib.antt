pub mod Sums
pub mod Bounds
pub mod Parts
pub mod FeasibleMeet
pub mod FeasibleMap
pub mod Blocks
pub mod Added
pub mod FeasibleSum
pub mod SideRows
pub mod FeasibleJoin
pub mod SideLists
pub mod JoinBlocks
mod Examples
