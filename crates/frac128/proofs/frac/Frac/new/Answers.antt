use Rattle.std.proofs.Common.{◌≡◌, unsigned_abs, ◌∙◌, arith}
use Rattle.std.proofs.lemmas.Int.{ints, to_z-of_z}
use mir.Syntax.{w128}
use Rattle.frac128.proofs.Made.{makes, not_zero}
use Rattle.frac128.proofs.Signs.{same_signs}
use Rattle.frac128.proofs.frac.Frac.new.Goals as goal

pub returns : goal.returns
returns c =
    let num_size : c.unsigned_abs.result ≡ unsigned_abs c.args.num = omega (arith, ints, c.unsigned_abs.ensures.value) in
    let den_size : c.unsigned_abs-2.result ≡ unsigned_abs c.args.den = omega (arith, ints, c.unsigned_abs-2.ensures.value) in
    let sign = c.differ_in_sign.ensures ∙ same_signs _ _ _ _ (to_z-of_z w128 c.args.num c.ranges.num) (to_z-of_z w128 c.args.den c.ranges.den) in
    makes c.args.num c.args.den c.reduce.result _ c.differ_in_sign.result _ _ (not_zero c.args.den c.if-den-eq0.false) sign num_size den_size c.reduce.ensures c.ok_or.ensures.value
