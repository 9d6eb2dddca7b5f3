-- Program (what a program by its columns stands for) is the subject; Columns, Entries and Written
-- serve the code's own steps.
pub mod Columns
pub mod Entries
pub mod Program
pub mod Written
