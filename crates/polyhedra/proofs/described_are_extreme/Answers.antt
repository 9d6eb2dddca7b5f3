use Rattle.polyhedra.proofs.Generators.{described_are_extreme}
use Rattle.polyhedra.proofs.described_are_extreme.Goals as goal

pub returns : goal.returns
returns c = described_are_extreme
