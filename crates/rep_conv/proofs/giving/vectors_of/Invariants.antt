use Rattle.std.proofs.Common.{◌≡◌, map, take}
use Rattle.rep_conv.proofs.giving.vectors_of.Given as goal

abbrev pub invariant-loop-generator : goal.invariant-loop-generator
invariant-loop-generator l = l.list ≡ map (λ g. g.vector) (take l.generator-index l.generators)
