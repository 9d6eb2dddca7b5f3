use mir.Syntax.{w64}
use Rattle.std.proofs.Common.{refl}
use Rattle.frac128.proofs.Binary.{odd_part_is}
use Rattle.frac128.proofs.gcd.odd_part.Goals as goal

pub returns : goal.returns
returns c =
    let is = odd_part_is w64 c.args.n _ refl c.requires c.ranges.n.fits in
    record { odd = is.odd; power = (_, is.whole) }
