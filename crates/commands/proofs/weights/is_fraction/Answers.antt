use Rattle.std.proofs.Common.{◌∙◌}
use Rattle.commands.proofs.WeightWords.{fraction_is}
use Rattle.commands.proofs.weights.is_fraction.Goals as goal

pub returns : goal.returns
returns c = c.is_ok.ensures.value ∙ fraction_is c.args.word.now c.fraction.result c.fraction.ensures
