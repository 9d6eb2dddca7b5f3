-- The subject: Described (the one description that serves all), Projected (`project`, `associate`),
-- Parts (an empty part of a join), Calculus (`meet`, `sum`, `join`, `map`), Weights (`weights`,
-- `weigh`); Turning (what `vertices` and `facets` reply), Checking (what `reconv` does), Accepted
-- (what it says of a log that they write); Draws, Sample (the file of a number), Summary (of its
-- answer), SampleLaws. For the code's own steps: Drawn.
pub mod Described
pub mod Projected
pub mod Parts
pub mod Calculus
pub mod Weights
pub mod Turning
pub mod Checking
pub mod Accepted
pub mod Drawn
pub mod Draws
pub mod SampleLaws
pub mod Sample
pub mod Summary
