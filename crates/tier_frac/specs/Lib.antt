-- The subject: Size, then Form.
pub mod Form
pub mod Size
