use Rattle.lower_image.proofs.LowerRows.{lower_rows}
use Rattle.lower_image.proofs.laws.lower_rows.Goals as goal

pub returns : goal.returns
returns c = lower_rows
