mod Asked
mod Associated
pub mod Bounded
pub mod ConversionsAnswered
mod ConversionsTold
pub mod Drawing
mod Entries
mod OneRep
pub mod Passing
pub mod Places
pub mod Printed
pub mod Samples
pub mod SamplesTold
pub mod SetsAnswered
mod SetsTold
mod WeightVerdicts
pub mod WeightsAnswered
mod Words
