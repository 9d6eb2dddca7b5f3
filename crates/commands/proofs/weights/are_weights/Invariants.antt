use Rattle.std.proofs.Common.{◌≡◌}
use Rattle.commands.specs.Weights.{are_weights, pieces}
use Rattle.commands.proofs.WeightWords.{passes}
use Rattle.commands.proofs.weights.are_weights.Given as goal

-- the test of the pieces that are left has the answer
abbrev pub invariant-loop : goal.invariant-loop
invariant-loop l = are_weights l.word ≡ passes l.counter (pieces l.rest)
