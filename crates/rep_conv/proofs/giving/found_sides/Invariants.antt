use Rattle.std.proofs.Common.{◌≡◌, take}
use Rattle.std.specs.List.{flat_map}
use Rattle.rep_conv.specs.Giving.{side_of}
use Rattle.rep_conv.proofs.giving.found_sides.Given as goal

abbrev pub invariant-loop-generator : goal.invariant-loop-generator
invariant-loop-generator l = l.list ≡ flat_map side_of (take l.generator-index l.generators)
