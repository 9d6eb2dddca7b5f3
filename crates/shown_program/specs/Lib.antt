-- For the code's own steps alone: Tests (what a guess is tested against), Guesses, Marks. The public
-- calls speak of the programs of lp_form.
pub mod Guesses
pub mod Marks
pub mod Tests
