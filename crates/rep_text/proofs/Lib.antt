pub mod ConvLaws
pub mod RowWords
pub mod RowRead
pub mod RepLines
pub mod RepByLine
pub mod RepFound
pub mod RepLaws
pub mod Worked
