-- The subject: Operands (what is counted of the operands), then Steps, Cones and Programs, one for
-- each kind of call.
pub mod Cones
pub mod Operands
pub mod Programs
pub mod Steps
