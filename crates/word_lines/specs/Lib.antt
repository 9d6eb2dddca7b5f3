-- The subject: Parts, Numerals, LineFault, Grammar, FirstFault, Names. The statement of the law:
-- Laws. For the code's own steps: Taking, Printing.
pub mod Names
pub mod Numerals
pub mod Parts
pub mod LineFault
pub mod Grammar
pub mod FirstFault
pub mod Laws
pub mod Taking
pub mod Printing
