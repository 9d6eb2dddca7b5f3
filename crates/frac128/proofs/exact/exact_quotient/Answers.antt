use mir.Syntax.{w128}
use Rattle.std.proofs.Common.{◌^◌, refl}
use Rattle.frac128.proofs.Binary.{odd_part_is}
use Rattle.frac128.proofs.Inverse.{quotient_by_inverse}
use Rattle.frac128.proofs.exact.exact_quotient.Goals as goal

pub inverse-requires : goal.inverse-requires
inverse-requires c = (odd_part_is w128 c.args.y _ refl c.requires.positive c.ranges.y.fits).odd

pub returns-else-x-le-WORD : goal.returns-else-x-le-WORD
returns-else-x-le-WORD c =
    quotient_by_inverse c.args.x c.args.y (2 ^ 128) _ _ c.inverse.result _ c.requires.positive c.requires.divides c.ranges.x.fits
    (odd_part_is w128 c.args.y _ refl c.requires.positive c.ranges.y.fits).whole c.inverse.ensures refl
