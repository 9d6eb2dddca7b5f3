use Rattle.std.proofs.Common.{◌≡◌, ◌<◌, ◌^◌, unsigned_abs, ap, ◌∙◌, refl, arith}
use Rattle.std.proofs.Math.Nat.{pos_of_dvd_of_pos, le_of_dvd, div-le_self}
use Rattle.std.proofs.lemmas.Int.{ints, to_z-of_z}
use mir.Syntax.{w128}
use Rattle.frac128.specs.Signed.{is_below_zero}
use Rattle.frac128.proofs.Carried.{same_total}
use Rattle.frac128.proofs.Lowest.{stored, lowest_at, lowest_positive, lowest_coprime, lowest_same}
use Rattle.frac128.proofs.Short.{short_sum_lowest}
use Rattle.frac128.proofs.Signs.{below_zero}
use Rattle.tier_frac.proofs.Fitting.{fit_words, kept_word}
use Rattle.tier_frac.proofs.words.Words.plus_other.Goals as goal

pub quotient_words-left-requires : goal.quotient_words-left-requires
quotient_words-left-requires c = pos_of_dvd_of_pos c.gcd_words-common.ensures.0 c.self.inside.positive

pub quotient_words-right-requires : goal.quotient_words-right-requires
quotient_words-right-requires c = pos_of_dvd_of_pos c.gcd_words-common.ensures.0 c.self.inside.positive

pub sum_of_products-sum-requires : goal.sum_of_products-sum-requires
sum_of_products-sum-requires c =
    let small = (fit_words c.self.inside.num c.self.inside.den c.self.invariant).den in
    let other_small = (fit_words c.other.inside.num c.other.inside.den c.other.invariant).den in
    record {
      x_small = omega (arith, c.quotient_words-right.ensures, div-le_self c.other.inside.den c.gcd_words-common.result);
      y_small = omega (arith, c.quotient_words-left.ensures, div-le_self c.self.inside.den c.gcd_words-common.result);
    }

pub quotient-num-requires : goal.quotient-num-requires
quotient-num-requires c =
    let some = pos_of_dvd_of_pos c.gcd_words-common.ensures.0 c.self.inside.positive in
    let same = c.from.ensures in
    c.gcd-shared.ensures.positive (omega arith)

pub quotient_words-requires : goal.quotient_words-requires
quotient_words-requires c =
    let some = pos_of_dvd_of_pos c.gcd_words-common.ensures.0 c.self.inside.positive in
    let same = c.from.ensures in
    c.gcd-shared.ensures.positive (omega arith)

pub overflow_cast-shared : goal.overflow_cast-shared
overflow_cast-shared c =
    let some = pos_of_dvd_of_pos c.gcd_words-common.ensures.0 c.self.inside.positive in
    let same = c.from.ensures in
    let below : c.gcd_words-common.result < 2 ^ 64 = c.gcd_words-common.type_inv in
    record { fits = omega (arith, le_of_dvd (omega arith) c.gcd-shared.ensures.gcd.1) }

pub of-requires : goal.of-requires
of-requires c =
    let total = c.sum_of_products-sum.ensures ∙ same_total c.self.inside.num c.other.inside.num _ _ c.quotient_words-right.result c.quotient_words-left.result
    (kept_word c.self.inside.num c.self.inside.den c.self.invariant) (kept_word c.other.inside.num c.other.inside.den c.other.invariant) in
    let size : c.unsigned_abs-size.result ≡ unsigned_abs c.sum_of_products-sum.result = omega (arith, ints, c.unsigned_abs-size.ensures.value) in
    let exact = short_sum_lowest c.args.self c.args.other c.self.inside.num c.other.inside.num c.self.inside.den c.other.inside.den _ _ _ c.sum_of_products-sum.result _ _ _ _ _ c.wide_product-den.result
    (stored _ _ c.self.view_is) (stored _ _ c.other.view_is) c.gcd_words-common.ensures c.quotient_words-left.ensures c.quotient_words-right.ensures total size c.from.ensures c.gcd-shared.ensures.gcd c.quotient-num.ensures c.quotient_words.ensures c.wide_product-den.ensures in
    record { positive = lowest_positive _ _ _ _ exact; lowest = lowest_coprime _ _ _ _ exact }

pub returns : goal.returns
returns c =
    let total = c.sum_of_products-sum.ensures ∙ same_total c.self.inside.num c.other.inside.num _ _ c.quotient_words-right.result c.quotient_words-left.result
    (kept_word c.self.inside.num c.self.inside.den c.self.invariant) (kept_word c.other.inside.num c.other.inside.den c.other.invariant) in
    let size : c.unsigned_abs-size.result ≡ unsigned_abs c.sum_of_products-sum.result = omega (arith, ints, c.unsigned_abs-size.ensures.value) in
    let exact = short_sum_lowest c.args.self c.args.other c.self.inside.num c.other.inside.num c.self.inside.den c.other.inside.den _ _ _ c.sum_of_products-sum.result _ _ _ _ _ c.wide_product-den.result
    (stored _ _ c.self.view_is) (stored _ _ c.other.view_is) c.gcd_words-common.ensures c.quotient_words-left.ensures c.quotient_words-right.ensures total size c.from.ensures c.gcd-shared.ensures.gcd c.quotient-num.ensures c.quotient_words.ensures c.wide_product-den.ensures in
    let sign = below_zero _ ∙ ap is_below_zero (to_z-of_z w128 c.sum_of_products-sum.result (record { sfits = c.sum_of_products-sum.type_inv })) in
    lowest_same _ _ _ _ _ (lowest_at _ _ _ _ _ _ _ exact sign refl refl) c.of.ensures.num c.of.ensures.den
