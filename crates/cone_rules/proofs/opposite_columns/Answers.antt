use Rattle.cone_rules.proofs.Opposite.{opposite_columns}
use Rattle.cone_rules.proofs.opposite_columns.Goals as goal

pub returns : goal.returns
returns c = opposite_columns
