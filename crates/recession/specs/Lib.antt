-- The subject: Asking (what Benson's program says of a vector), First and Further (how the
-- description of an image begins), Logs (the log of an engine).
pub use Rattle.benson_program.specs.Ends
pub use Rattle.benson_program.specs.Wholes
pub mod Asking
pub mod First
pub mod Further
pub mod Logs
