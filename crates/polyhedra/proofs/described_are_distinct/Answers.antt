use Rattle.polyhedra.proofs.Generators.{described_are_distinct}
use Rattle.polyhedra.proofs.described_are_distinct.Goals as goal

pub returns : goal.returns
returns c = described_are_distinct
