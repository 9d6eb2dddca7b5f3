-- The subject: Held (which numbers a fraction holds), New, Text, Sparse (sparse vectors), Laws. For
-- the code's own steps: Signed, Mixed, Floors.
pub mod Floors
pub mod Held
pub mod Laws
pub mod Mixed
pub mod New
pub mod Signed
pub mod Sparse
pub mod Text
