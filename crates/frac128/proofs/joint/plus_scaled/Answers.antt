use Rattle.std.proofs.Common.{ℤ, ◌+◌, ◌*◌, ◌≤◌, unsigned_abs, sym, subst}
use Rattle.frac128.proofs.Carried.{computed_scaled, scaled_size}
use Rattle.frac128.proofs.joint.plus_scaled.Goals as goal

pub returns-clause-size : goal.returns-clause-size
returns-clause-size c =
    subst (λ (z : ℤ). unsigned_abs z ≤ unsigned_abs c.args.sum + 16 * unsigned_abs c.args.number)
    (sym (computed_scaled c.args.sum c.args.number c.args.digit c.ranges.sum c.ranges.number c.requires.sum_small c.requires.number_small c.requires.digit_small))
    (scaled_size c.args.sum c.args.number c.args.digit c.requires.number_small c.requires.digit_small)
