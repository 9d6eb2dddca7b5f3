-- The subject: Fits, RepText, RepFault, ConvText. The statements of the laws: Laws. Worked
-- examples: Examples. For the code's own steps: RepReading.
pub mod Fits
pub mod RepText
pub mod RepFault
pub mod ConvText
pub mod Laws
pub mod Examples
pub mod RepReading
