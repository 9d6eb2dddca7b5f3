use mir.Syntax.{w128}
use Rattle.std.proofs.Common.{◌*◌, ◌^◌, ap, ◌∙◌, refl}
use Rattle.std.proofs.Math.Nat.{mul_comm}
use Rattle.frac128.proofs.Binary.{odd_part_is, gcd_of_odd_parts, gcd_kept}
use Rattle.frac128.proofs.gcd.gcd_wide.Goals as goal

pub gcd_wide_odd-requires-clause-a_odd : goal.gcd_wide_odd-requires-clause-a_odd
gcd_wide_odd-requires-clause-a_odd c = (odd_part_is w128 c.args.a _ refl c.requires.a_positive c.ranges.a.fits).odd

pub gcd_wide_odd-requires-clause-b_odd : goal.gcd_wide_odd-requires-clause-b_odd
gcd_wide_odd-requires-clause-b_odd c = (odd_part_is w128 c.args.b _ refl c.requires.b_positive c.ranges.b.fits).odd

pub returns : goal.returns
returns c =
    let of_a = odd_part_is w128 c.args.a _ refl c.requires.a_positive c.ranges.a.fits in
    let of_b = odd_part_is w128 c.args.b _ refl c.requires.b_positive c.ranges.b.fits in
    gcd_kept c.args.a c.args.b _ _ _ c.requires.a_positive c.ranges.a.fits
    (gcd_of_odd_parts c.args.a c.args.b _ _ _ _ c.gcd_wide_odd.result of_a.whole of_b.whole of_a.odd of_b.odd c.gcd_wide_odd.ensures)
    (mul_comm c.gcd_wide_odd.result (2 ^ c.min.result) ∙ ap (λ n. 2 ^ n * c.gcd_wide_odd.result) c.min.ensures)
