use Rattle.std.proofs.Common.{◌≡◌, ℤ, ◌<◌, ◌^◌, unsigned_abs, sym, ap, subst, ◌∙◌, refl, arith}
use Rattle.std.proofs.Math.Nat.{pos_of_dvd_of_pos, le_of_dvd}
use Rattle.std.proofs.lemmas.Int.{ints}
use Rattle.frac128.specs.Signed.{is_below_zero}
use Rattle.frac128.proofs.Carried.{same_total}
use Rattle.frac128.proofs.Lowest.{stored, lowest_at, lowest_positive, lowest_coprime, lowest_held, lowest_same}
use Rattle.frac128.proofs.Short.{short_num, short_den, quotient_short, quotient_held, product_held, short_sum_size, short_sum_lowest}
use Rattle.frac128.proofs.Signs.{below_zero, kept}
use Rattle.frac128.proofs.frac.Frac.short_sum.Goals as goal

pub quotient_words-left-requires : goal.quotient_words-left-requires
quotient_words-left-requires c = pos_of_dvd_of_pos c.gcd_words-common.ensures.0 c.self.inside.positive

pub quotient_words-right-requires : goal.quotient_words-right-requires
quotient_words-right-requires c = pos_of_dvd_of_pos c.gcd_words-common.ensures.0 c.self.inside.positive

pub sum_of_products-sum-requires : goal.sum_of_products-sum-requires
sum_of_products-sum-requires c =
    let left = stored _ _ c.self.view_is in
    let right = stored _ _ c.other.view_is in
    let num = short_num _ _ _ left c.requires.short in
    let other_num = short_num _ _ _ right c.requires.other_short in
    let x_below = quotient_short _ _ _ (short_den _ _ _ right c.requires.other_short) c.quotient_words-right.ensures in
    let y_below = quotient_short _ _ _ (short_den _ _ _ left c.requires.short) c.quotient_words-left.ensures in
    record {
      a_small = subst (λ (z : ℤ). unsigned_abs z < 2 ^ 60) (sym (kept c.self.inside.num c.self.invariant.0)) (omega arith);
      c_small = subst (λ (z : ℤ). unsigned_abs z < 2 ^ 60) (sym (kept c.other.inside.num c.other.invariant.0)) (omega arith);
      x_small = omega arith;
      y_small = omega arith;
    }

pub quotient-num-requires : goal.quotient-num-requires
quotient-num-requires c =
    let some = pos_of_dvd_of_pos c.gcd_words-common.ensures.0 c.self.inside.positive in
    let same = c.from.ensures in
    c.gcd-shared.ensures.positive (omega arith)

pub quotient_words-requires : goal.quotient_words-requires
quotient_words-requires c =
    let some = pos_of_dvd_of_pos c.gcd_words-common.ensures.0 c.self.inside.positive in
    let same = c.from.ensures in
    c.gcd-shared.ensures.positive (omega arith)

pub overflow_cast-shared : goal.overflow_cast-shared
overflow_cast-shared c =
    let some = pos_of_dvd_of_pos c.gcd_words-common.ensures.0 c.self.inside.positive in
    let same = c.from.ensures in
    let short = short_den _ _ _ (stored _ _ c.self.view_is) c.requires.short in
    record { fits = omega (arith, le_of_dvd (omega arith) c.gcd-shared.ensures.gcd.1, le_of_dvd c.self.inside.positive c.gcd_words-common.ensures.0) }

pub with_sign-requires : goal.with_sign-requires
with_sign-requires c =
    let left = stored _ _ c.self.view_is in
    let right = stored _ _ c.other.view_is in
    let total = c.sum_of_products-sum.ensures.value ∙ same_total c.self.inside.num c.other.inside.num _ _ c.quotient_words-right.result c.quotient_words-left.result (kept c.self.inside.num c.self.invariant.0) (kept c.other.inside.num c.other.invariant.0) in
    let size : c.unsigned_abs-size.result ≡ unsigned_abs c.sum_of_products-sum.result = omega (arith, ints, c.unsigned_abs-size.ensures.value) in
    let exact = short_sum_lowest c.args.self c.args.other c.self.inside.num c.other.inside.num c.self.inside.den c.other.inside.den _ _ _ c.sum_of_products-sum.result _ _ _ _ _ c.wide_product-den.result
    left right c.gcd_words-common.ensures c.quotient_words-left.ensures c.quotient_words-right.ensures total size c.from.ensures c.gcd-shared.ensures.gcd c.quotient-num.ensures c.quotient_words.ensures c.wide_product-den.ensures in
    let few = short_sum_size _ _ _ _ _ _ _ _ _ c.sum_of_products-sum.result left right c.requires.short c.requires.other_short c.quotient_words-left.ensures c.quotient_words-right.ensures total in
    record {
      num_small = quotient_held c.sum_of_products-sum.result _ _ _ few size c.quotient-num.ensures;
      den_small = product_held c.self.inside.den _ c.other.inside.den _ _ _ _ (short_den _ _ _ left c.requires.short) (short_den _ _ _ right c.requires.other_short) c.quotient_words-left.ensures c.quotient_words.ensures c.wide_product-den.ensures;
      positive = lowest_positive _ _ _ _ exact;
      lowest = lowest_coprime _ _ _ _ exact;
    }

pub returns : goal.returns
returns c =
    let left = stored _ _ c.self.view_is in
    let right = stored _ _ c.other.view_is in
    let total = c.sum_of_products-sum.ensures.value ∙ same_total c.self.inside.num c.other.inside.num _ _ c.quotient_words-right.result c.quotient_words-left.result (kept c.self.inside.num c.self.invariant.0) (kept c.other.inside.num c.other.invariant.0) in
    let size : c.unsigned_abs-size.result ≡ unsigned_abs c.sum_of_products-sum.result = omega (arith, ints, c.unsigned_abs-size.ensures.value) in
    let exact = short_sum_lowest c.args.self c.args.other c.self.inside.num c.other.inside.num c.self.inside.den c.other.inside.den _ _ _ c.sum_of_products-sum.result _ _ _ _ _ c.wide_product-den.result
    left right c.gcd_words-common.ensures c.quotient_words-left.ensures c.quotient_words-right.ensures total size c.from.ensures c.gcd-shared.ensures.gcd c.quotient-num.ensures c.quotient_words.ensures c.wide_product-den.ensures in
    let few = short_sum_size _ _ _ _ _ _ _ _ _ c.sum_of_products-sum.result left right c.requires.short c.requires.other_short c.quotient_words-left.ensures c.quotient_words-right.ensures total in
    let sign = below_zero _ ∙ ap is_below_zero (kept c.sum_of_products-sum.result (omega arith)) in (
      lowest_same _ _ _ _ _ (lowest_at _ _ _ _ _ _ _ exact sign refl refl) c.with_sign.ensures.num c.with_sign.ensures.den,
      lowest_held _ _ _ _ exact (quotient_held c.sum_of_products-sum.result _ _ _ few size c.quotient-num.ensures) (product_held c.self.inside.den _ c.other.inside.den _ _ _ _ (short_den _ _ _ left c.requires.short) (short_den _ _ _ right c.requires.other_short) c.quotient_words-left.ensures c.quotient_words.ensures c.wide_product-den.ensures),
    )
