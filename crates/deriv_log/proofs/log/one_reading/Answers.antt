use Rattle.deriv_log.proofs.Laws.{one_reading}
use Rattle.deriv_log.proofs.log.one_reading.Goals as goal

pub returns : goal.returns
returns c = one_reading
