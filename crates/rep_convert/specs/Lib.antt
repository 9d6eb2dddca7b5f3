-- The subject: Lines, Licensed, Standing. Worked examples: Examples. For the code's own steps:
-- Started, Order.
pub mod Lines
pub mod Licensed
pub mod Standing
pub mod Started
pub mod Examples
pub mod Order
