-- The subject: Table, Dictionary, Simplex, Lex, Phases, Elimination, Exchange, Chosen, Optimum, in
-- this order, most with their laws; the others are in Laws. Worked examples: Examples.
pub mod Chosen
pub mod Dictionary
pub mod Elimination
pub mod Examples
pub mod Exchange
pub mod Laws
pub mod Lex
pub mod Optimum
pub mod Phases
pub mod Simplex
pub mod Table
