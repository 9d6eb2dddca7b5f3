-- The subject: LogText, Formed, LineFault, LogGrammar, FirstFault. The statements of the laws:
-- Laws. For the code's own steps: Taking.
pub use Rattle.word_lines.specs.Names
pub use Rattle.word_lines.specs.Numerals
pub use Rattle.word_lines.specs.Printing
pub mod LogText
pub mod Formed
pub mod LineFault
pub mod LogGrammar
pub mod FirstFault
pub mod Laws
pub mod Taking
