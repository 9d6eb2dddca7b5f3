use Rattle.rep_text.proofs.ConvLaws.{one_conv_reading}
use Rattle.rep_text.proofs.laws.one_conv_reading.Goals as goal

pub returns : goal.returns
returns c = one_conv_reading
