use Rattle.std.proofs.Common.{length}
use Rattle.commands.proofs.WeightWords.{HasTaken}
use Rattle.commands.proofs.weights.weights_of.Given as goal

abbrev pub invariant-loop-weights : goal.invariant-loop-weights
invariant-loop-weights l = HasTaken l.word l.rest l.weights

abbrev pub decreases-loop-weights : goal.decreases-loop-weights
decreases-loop-weights l = length l.rest
