-- The subject: Lines, Number, Statements, Grammar, FirstFault (the grammar of files), with Laws and Examples; Faults.
-- What only serves proofs: Ends, Tables, Drafts, Places, Reading.
pub mod Drafts
pub mod Ends
pub mod Examples
pub mod Faults
pub mod FirstFault
pub mod Grammar
pub mod Lines
pub mod Number
pub mod Places
pub mod Reading
pub mod Statements
pub mod Tables
pub mod Laws
