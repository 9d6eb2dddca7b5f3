-- The subject: Gcd, Rational, Order, Vector (numbers and vectors), Field (what a call of an exact
-- field answers), Laws. What only serves proofs: Ring (the tool for identities), LeastQuotient, Over
-- (numbers over one denominator).
pub mod Field
pub mod Gcd
pub mod Laws
pub mod LeastQuotient
pub mod Order
pub mod Over
pub mod Rational
pub mod Ring
pub mod Vector
