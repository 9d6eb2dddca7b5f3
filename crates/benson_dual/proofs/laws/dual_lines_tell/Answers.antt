use Rattle.benson_dual.proofs.DualLines.{dual_lines_tell}
use Rattle.benson_dual.proofs.laws.dual_lines_tell.Goals as goal

pub returns : goal.returns
returns c = dual_lines_tell
