-- The proofs of the laws that the law functions state.
use Rattle.std.specs.Prelude.{◌≡◌, ℕ, ◌<◌, ◌*◌, ℤ, pos, ◌+ℤ◌, ◌*ℤ◌, unsigned_abs}
use Rattle.std.specs.Int.{IsGcd}
use Rattle.std.proofs.Common.{ap}
use Rattle.exact_field.specs.Gcd.{gcd_is}
use Rattle.exact_field.specs.Laws.{FieldLaws, FractionLaws, WholeLaws, OrderLaws, SumLaws, LeastLaws, OneNormalFormOneValue}
use Rattle.exact_field.specs.Rational.{ℚ, fraction, ◌+ℚ◌, ◌*ℚ◌}
use Rattle.exact_field.specs.Ring.{Ring}
use Rattle.exact_field.proofs.Comparison.{same_ℚ-is, cmp_ℚ-total}
use Rattle.exact_field.proofs.Inequalities.{le_refl_ℚ, le_antisym_ℚ, le_trans_ℚ, le_total_ℚ, lt-le_ℚ, lt-not-same, lt_from_le, three_cases, add_right-le, neg-le, mul_right-le, mul-nonnegative, inverse-positive}
use Rattle.exact_field.proofs.LeastQuotient.{least_element, steps}
use Rattle.exact_field.proofs.RationalLaws.{divides_other_factor, same_cross, fraction_represents, fraction_same, fraction_parts, represented_is, add_represents, mul_represents, le_represented, whole_injective, whole-add, whole-mul, whole-neg, whole-le, whole-lt}
use Rattle.exact_field.proofs.Rationals.{add_comm_ℚ, add_assoc_ℚ, add-zero_ℚ, add-neg_ℚ, mul_comm_ℚ, mul_assoc_ℚ, mul-one_ℚ, mul-add_ℚ, one-not-zero, mul-inverse_ℚ, div-mul_ℚ, same_or_not}
use Rattle.exact_field.proofs.RingTool.{ring}
use Rattle.exact_field.proofs.Sums.{sum-append, sum-map_scaled, sum-map_add, sum_swapped, sum-nonnegative, each_zero_from_sum, dot_comm, dot-scaled_left, dot-append}

pub field_laws : FieldLaws
field_laws =
    record {
      add_comm = add_comm_ℚ;
      add_assoc = add_assoc_ℚ;
      add_zero = add-zero_ℚ;
      add_neg = add-neg_ℚ;
      mul_comm = mul_comm_ℚ;
      mul_assoc = mul_assoc_ℚ;
      mul_one = mul-one_ℚ;
      mul_add = mul-add_ℚ;
      one_not_zero = one-not-zero;
      mul_inverse = mul-inverse_ℚ;
      div_mul = div-mul_ℚ;
    }

-- two pairs in lowest terms with equal cross products are one
one_lowest_form : (n m : ℤ) (d e : ℕ) → 0 < d → 0 < e → IsGcd (unsigned_abs n) d 1 → IsGcd (unsigned_abs m) e 1 → n *ℤ pos e ≡ m *ℤ pos d → (n ≡ m) × (d ≡ e)
one_lowest_form n m d e hd he ln lm cross =
    let p : ℚ = record { num = n; den = d; positive = hd; lowest = ln } in
    let q : ℚ = record { num = m; den = e; positive = he; lowest = lm } in
    let same : p ≡ q = same_cross p q cross in
    (ap (λ (x : ℚ). x.num) same, ap (λ (x : ℚ). x.den) same)

pub fraction_laws : FractionLaws
fraction_laws =
    record {
      greatest_common_divisor = gcd_is;
      coprime_factor = divides_other_factor;
      one_lowest_form = one_lowest_form;
      one_number = same_cross;
      cross = λ n d h. (fraction_represents n d h).cross;
      same = fraction_same;
      parts = fraction_parts;
      add =
          λ n m d e h k.
          represented_is (fraction n d +ℚ fraction m e) (n *ℤ pos e +ℤ m *ℤ pos d) (d * e)
          (add_represents (fraction n d) (fraction m e) n m d e (fraction_represents n d h) (fraction_represents m e k));
      mul =
          λ n m d e h k.
          represented_is (fraction n d *ℚ fraction m e) (n *ℤ m) (d * e) (mul_represents (fraction n d) (fraction m e) n m d e (fraction_represents n d h) (fraction_represents m e k));
      le = λ n m d e h k. le_represented (fraction n d) (fraction m e) n m d e (fraction_represents n d h) (fraction_represents m e k);
    }

pub whole_laws : WholeLaws
whole_laws = record { injective = whole_injective; add = whole-add; mul = whole-mul; neg = whole-neg; le = whole-le; lt = whole-lt }

pub order_laws : OrderLaws
order_laws =
    record {
      refl = le_refl_ℚ;
      antisym = le_antisym_ℚ;
      trans = le_trans_ℚ;
      total = le_total_ℚ;
      less = λ p q. (λ h. (lt-le_ℚ p q h, lt-not-same p q h), λ h. lt_from_le p q h.0 h.1);
      three_cases = three_cases;
      same_or_not = same_or_not;
      same_test = same_ℚ-is;
      compared = cmp_ℚ-total;
      add = add_right-le;
      neg = neg-le;
      mul = mul_right-le;
      mul_nonnegative = mul-nonnegative;
      inverse_positive = inverse-positive;
    }

pub one_normal_form : {A : Type 0} (R : Ring A) → OneNormalFormOneValue R
one_normal_form R = ring R

pub sum_laws : (A B : Type 0) → SumLaws A B
sum_laws A B =
    record {
      append = sum-append;
      scaled = sum-map_scaled;
      added = sum-map_add;
      swapped = sum_swapped;
      nonnegative = sum-nonnegative;
      zero_only_of_zeros = each_zero_from_sum;
      dot_comm = dot_comm;
      dot_scaled = dot-scaled_left;
      dot_append = dot-append;
    }

pub least_laws : (A : Type 0) → LeastLaws A
least_laws A = record { least = least_element; step = steps }
