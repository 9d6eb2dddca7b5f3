use Rattle.poly_calc.proofs.Examples.{intervals_example}
use Rattle.poly_calc.proofs.laws.intervals_example.Goals as goal

pub returns : goal.returns
returns c = intervals_example
