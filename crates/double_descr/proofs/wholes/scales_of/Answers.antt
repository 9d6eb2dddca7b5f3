use mir.Syntax.{w128}
use Rattle.std.specs.Prelude.{ℤ, pos, ◌*ℤ◌, ◌<ℤ◌}
use Rattle.std.proofs.Common.{to_z, of_z, refl, sym, ◌∙◌, subst, arith}
use Rattle.std.proofs.lemmas.Int.{ints}
use Rattle.exact_field.specs.Over.{IsBelowLimit, IsOver}
use Rattle.exact_field.specs.Rational.{ℚ, neg_ℚ}
use Rattle.exact_field.proofs.Numerators.{kept}
use Rattle.polyhedra.proofs.Order.{not_zero_of_positive, neg_positive}
use Rattle.double_descr.proofs.WholeNumbers.{factor_over}
use Rattle.double_descr.proofs.wholes.scales_of.Goals as goal

positive_kept : (z : ℤ) → IsBelowLimit z → pos 0 <ℤ z → pos 0 <ℤ to_z w128 (of_z w128 z)
positive_kept z h some = subst (λ (n : ℤ). pos 0 <ℤ n) (sym (kept z h)) some

small_kept : (z : ℤ) → IsBelowLimit z → IsBelowLimit (to_z w128 (of_z w128 z))
small_kept z h = subst IsBelowLimit (sym (kept z h)) h

pub invariant_of-result : goal.invariant_of-result
invariant_of-result g c =
    let scale = c.in_ok-scale.scale in
    record {
      den_positive = positive_kept c.in_ok-den.den c.in_ok-den.ensures.1 c.in_ok-den.ensures.0;
      other_positive = positive_kept c.in_ok-other_den.other_den c.in_ok-other_den.ensures.1 c.in_ok-other_den.ensures.0;
      den_small = small_kept c.in_ok-den.den c.in_ok-den.ensures.1;
      other_small = small_kept c.in_ok-other_den.other_den c.in_ok-other_den.ensures.1;
      above_small = small_kept c.in_ok-above.above c.in_ok-above.ensures.1;
      below_small = small_kept c.in_ok-below.below c.in_ok-below.ensures.1;
      positive = omega (arith, ints, c.if-scale-le0.false);
      small = small_kept scale c.in_ok-scale.ensures.1;
      scale_is = kept scale c.in_ok-scale.ensures.1 ∙ c.in_ok-scale.ensures.0;
    }

pub returns : goal.returns
returns g c =
    let a = g.F.Field.value c.args.at_plus in
    let b = g.F.Field.value c.args.at_minus in
    let d : ℤ = to_z w128 (of_z w128 c.in_ok-den.den) in
    let e : ℤ = to_z w128 (of_z w128 c.in_ok-other_den.other_den) in
    let above : ℤ = to_z w128 (of_z w128 c.in_ok-above.above) in
    let below : ℤ = to_z w128 (of_z w128 c.in_ok-below.below) in
    let scale : ℤ = to_z w128 (of_z w128 c.in_ok-scale.scale) in
    let is_above : IsOver d a above = subst (IsOver d a) (sym (kept c.in_ok-above.above c.in_ok-above.ensures.1)) c.in_ok-above.ensures in
    let is_below : IsOver e (neg_ℚ b) below =
    subst (IsOver e (neg_ℚ b)) (sym (kept c.in_ok-below.below c.in_ok-below.ensures.1)) (subst (λ (q : ℚ). IsOver e q c.in_ok-below.below) c.neg.ensures c.in_ok-below.ensures) in
    record {
      factor =
          factor_over a (neg_ℚ b) d e above below (above *ℤ e) scale (not_zero_of_positive (neg_ℚ b) (neg_positive b c.requires.below)) is_above is_below refl
          (kept c.in_ok-scale.scale c.in_ok-scale.ensures.1 ∙ c.in_ok-scale.ensures.0);
      factor_small = subst IsBelowLimit c.in_ok-_factor.ensures.0 c.in_ok-_factor.ensures.1;
    }
