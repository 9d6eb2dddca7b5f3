-- The subject: Decimal (a number), Printing (a problem), then Laws.
pub mod Decimal
pub mod Laws
pub mod Printing
