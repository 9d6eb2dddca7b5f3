use mir.Syntax.{w128}
use Rattle.std.specs.Prelude.{ℤ, pos, ◌≡◌, ◌+ℤ◌, ◌*ℤ◌, ◌<ℤ◌, map}
use Rattle.std.proofs.Common.{to_z, of_z, refl, sym, ap, ap₂, ◌∙◌, subst, arith}
use Rattle.std.proofs.lemmas.List.{length-map}
use Rattle.std.proofs.lemmas.Option.{IfSome_then}
use Rattle.exact_field.specs.Over.{IsBelowLimit, IsQuotient}
use Rattle.exact_field.specs.Rational.{zero_ℚ, ◌+ℚ◌, ◌*ℚ◌}
use Rattle.exact_field.proofs.Numerators.{product_positive, product_over, sum_over, quotient_small, quotient_zero, kept, answered_quotient, same_quotient}
use Rattle.exact_field.proofs.Products.{dot_start, dot_on, dot_end, left_at}
use Rattle.exact_field.proofs.over.dot_over.Goals as goal

-- the product of positive denominators, as it is computed
both_positive : (both d e : ℤ) → (pos 0 <ℤ d) × IsBelowLimit d → (pos 0 <ℤ e) × IsBelowLimit e → both ≡ to_z w128 (of_z w128 d) *ℤ to_z w128 (of_z w128 e) → pos 0 <ℤ both
both_positive both d e hd he is = product_positive both d e (is ∙ ap₂ (λ (a b : ℤ). a *ℤ b) (kept d hd.1) (kept e he.1)) hd.0 he.0

pub loop-i-init : goal.loop-i-init
loop-i-init g c =
    let value = g.F.Field.value in
    record {
      total = zero_ℚ;
      from = dot_start g.F.Field.holds (map value c.args.row.now) (map value c.args.vector.now) zero_ℚ refl;
      is = quotient_zero _;
      small = omega arith;
    }

pub loop-i-preserved : goal.loop-i-preserved
loop-i-preserved g c =
    let value = g.F.Field.value in
    let holds = g.F.Field.holds in
    let x = value c.index-row-i.result in
    let y = value c.index-vector-i.result in
    let row_den = c.in_ok-row_den.row_den in
    let den = c.in_ok-den.den in
    let both = c.in_ok-both.both in
    let total = c.loop-i.invariant.total in
    let kept_both = kept both c.in_ok-both.ensures.1 in
    let full = c.holds_small.ensures c.if-not-holds_small.false in
    let some = both_positive both row_den den c.in_ok-row_den.ensures c.in_ok-den.ensures c.in_ok-both.ensures.0 in
    let term_is = c.in_ok-term.ensures.0 ∙ ap₂ (λ (a b : ℤ). a *ℤ b) (kept c.in_ok-x.x c.in_ok-x.ensures.1) (kept c.in_ok-y.y c.in_ok-y.ensures.1) in
    let term = product_over x y c.in_ok-x.x c.in_ok-y.y c.in_ok-term.term _ _ both c.in_ok-x.ensures c.in_ok-y.ensures term_is c.in_ok-both.ensures.0 in
    let sum_is = c.in_ok-sum.ensures.0 ∙ ap (λ (z : ℤ). to_z w128 c.loop-i.sum-bits +ℤ z) (kept c.in_ok-term.term c.in_ok-term.ensures.1) in
    let sum = sum_over total (x *ℚ y) (to_z w128 c.loop-i.sum-bits) c.in_ok-term.term c.in_ok-sum.sum both (subst (λ (z : ℤ). IsQuotient z (to_z w128 c.loop-i.sum-bits) total) kept_both c.loop-i.invariant.is) term sum_is in
    let kept_sum = kept c.in_ok-sum.sum c.in_ok-sum.ensures.1 in
    record {
      total = total +ℚ x *ℚ y;
      from = dot_on holds _ _ c.loop-i.i x y total _
          (left_at value c.args.row.now c.loop-i.i c.index-row-i.result c.loop-i-test.true c.index-row-i.is)
          (left_at value c.args.vector.now c.loop-i.i c.index-vector-i.result (omega (arith, c.requires, c.loop-i-test.true)) c.index-vector-i.is)
          c.loop-i.invariant.from refl
          (full (x *ℚ y) (quotient_small (x *ℚ y) c.in_ok-term.term both some term c.in_ok-term.ensures.1 c.in_ok-both.ensures.1))
          (full (total +ℚ x *ℚ y) (quotient_small (total +ℚ x *ℚ y) c.in_ok-sum.sum both some sum c.in_ok-sum.ensures.1 c.in_ok-both.ensures.1));
      is = subst (λ (z : ℤ). IsQuotient z (to_z w128 (of_z w128 c.in_ok-sum.sum)) (total +ℚ x *ℚ y)) (sym kept_both) (subst (λ (z : ℤ). IsQuotient both z (total +ℚ x *ℚ y)) (sym kept_sum) sum);
      small = subst (λ (z : ℤ). IsBelowLimit z) (sym kept_sum) c.in_ok-sum.ensures.1;
    }

pub returns : goal.returns
returns g c =
    let value = g.F.Field.value in
    let holds = g.F.Field.holds in
    let inv = c.loop-i.invariant in
    let both = c.in_ok-both.both in
    let some = both_positive both c.in_ok-row_den.row_den c.in_ok-den.den c.in_ok-row_den.ensures c.in_ok-den.ensures c.in_ok-both.ensures.0 in
    dot_end value holds _ _ c.loop-i.i inv.total c.of.result (omega (arith, length-map c.args.row.now value, c.loop-i-test.false)) inv.from
    (IfSome_then c.of.result (answered_quotient value holds _ _ _ _ c.of.result c.of.ensures (λ q h. h))
    (λ q h. same_quotient (value q) inv.total _ _ (subst (λ (z : ℤ). pos 0 <ℤ z) (sym (kept both c.in_ok-both.ensures.1)) some) h.0 inv.is))
