use Rattle.std.proofs.Common.{◌≡◌, take}
use Rattle.std.specs.List.{flat_map}
use Rattle.rep_conv.specs.Giving.{front_at}
use Rattle.rep_conv.proofs.giving.take_level.Given as goal

abbrev pub invariant-loop-generator : goal.invariant-loop-generator
invariant-loop-generator l = l.list ≡ flat_map (front_at l.fn.t) (take l.generator-index l.generators)
