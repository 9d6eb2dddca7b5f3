use Rattle.rep_text.proofs.RepLaws.{one_rep_reading}
use Rattle.rep_text.proofs.laws.one_rep_reading.Goals as goal

pub returns : goal.returns
returns c = one_rep_reading
