use Rattle.poly_calc.proofs.Examples.{parts_example}
use Rattle.poly_calc.proofs.laws.parts_example.Goals as goal

pub returns : goal.returns
returns c = parts_example
