use Rattle.std.proofs.Common.{◌∙◌, refl, arith}
use Rattle.frac128.proofs.Binary.{odd_part_of_difference}
use Rattle.frac128.proofs.gcd.odd_difference.Goals as goal

pub returns : goal.returns
returns c =
    let is = odd_part_of_difference c.args.x c.args.y c.max.result c.min.result _ _ c.ranges.x.fits c.ranges.y.fits c.requires c.max.ensures c.min.ensures refl refl in
    record { odd = is.odd; power = (_, is.whole ∙ omega (arith, c.max.ensures, c.min.ensures)) }
