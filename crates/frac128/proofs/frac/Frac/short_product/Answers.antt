use Rattle.std.proofs.Common.{◌≡◌, unsigned_abs, ◌∙◌, arith, refl}
use Rattle.std.proofs.Math.Nat.{pos_of_dvd_of_pos}
use Rattle.std.proofs.lemmas.Int.{ints}
use Rattle.frac128.specs.Signed.{differ, is_below_zero}
use Rattle.frac128.proofs.Lowest.{product_lowest, stored, lowest_at, lowest_positive, lowest_coprime, lowest_held, lowest_same}
use Rattle.frac128.proofs.Short.{short_num, short_den, product_held}
use Rattle.frac128.proofs.Signs.{kept, same_signs}
use Rattle.frac128.proofs.frac.Frac.short_product.Goals as goal

pub quotient_words-requires : goal.quotient_words-requires
quotient_words-requires c = pos_of_dvd_of_pos c.gcd_words-first.ensures.1 c.other.inside.positive

pub quotient_words-requires-2 : goal.quotient_words-requires-2
quotient_words-requires-2 c = pos_of_dvd_of_pos c.gcd_words-second.ensures.1 c.self.inside.positive

pub quotient_words-requires-3 : goal.quotient_words-requires-3
quotient_words-requires-3 c = pos_of_dvd_of_pos c.gcd_words-second.ensures.1 c.self.inside.positive

pub quotient_words-requires-4 : goal.quotient_words-requires-4
quotient_words-requires-4 c = pos_of_dvd_of_pos c.gcd_words-first.ensures.1 c.other.inside.positive

pub with_sign-requires : goal.with_sign-requires
with_sign-requires c =
    let left = stored _ _ c.self.view_is in
    let right = stored _ _ c.other.view_is in
    let ex : c.unsigned_abs-size.result ≡ unsigned_abs c.self.inside.num = omega (arith, ints, c.unsigned_abs-size.ensures.value) in
    let ey : c.unsigned_abs-other_size.result ≡ unsigned_abs c.other.inside.num = omega (arith, ints, c.unsigned_abs-other_size.ensures.value) in
    let exact = product_lowest c.args.self c.args.other c.self.inside.num c.other.inside.num c.self.inside.den c.other.inside.den _ _ _ _ _ _ _ _
    left right ex ey c.gcd_words-first.ensures c.gcd_words-second.ensures c.quotient_words.ensures c.quotient_words-2.ensures c.quotient_words-3.ensures c.quotient_words-4.ensures in
    let here = lowest_at _ _ _ _ c.wide_product-num.result _ c.wide_product-den.result exact refl c.wide_product-num.ensures c.wide_product-den.ensures in
    record {
      num_small = product_held c.unsigned_abs-size.result _ c.unsigned_abs-other_size.result _ _ _ _ (let small = short_num _ _ _ left c.requires.short in omega arith) (let small = short_num _ _ _ right c.requires.other_short in omega arith) c.quotient_words.ensures c.quotient_words-2.ensures c.wide_product-num.ensures;
      den_small = product_held c.self.inside.den _ c.other.inside.den _ _ _ _ (short_den _ _ _ left c.requires.short) (short_den _ _ _ right c.requires.other_short) c.quotient_words-3.ensures c.quotient_words-4.ensures c.wide_product-den.ensures;
      positive = lowest_positive _ _ _ _ here;
      lowest = lowest_coprime _ _ _ _ here;
    }

pub returns : goal.returns
returns c =
    let left = stored _ _ c.self.view_is in
    let right = stored _ _ c.other.view_is in
    let ex : c.unsigned_abs-size.result ≡ unsigned_abs c.self.inside.num = omega (arith, ints, c.unsigned_abs-size.ensures.value) in
    let ey : c.unsigned_abs-other_size.result ≡ unsigned_abs c.other.inside.num = omega (arith, ints, c.unsigned_abs-other_size.ensures.value) in
    let exact = product_lowest c.args.self c.args.other c.self.inside.num c.other.inside.num c.self.inside.den c.other.inside.den _ _ _ _ _ _ _ _
    left right ex ey c.gcd_words-first.ensures c.gcd_words-second.ensures c.quotient_words.ensures c.quotient_words-2.ensures c.quotient_words-3.ensures c.quotient_words-4.ensures in
    let here = lowest_at _ _ _ _ c.wide_product-num.result _ c.wide_product-den.result exact refl c.wide_product-num.ensures c.wide_product-den.ensures in
    let sign : c.differ_in_sign.result ≡ differ (is_below_zero c.self.inside.num) (is_below_zero c.other.inside.num) = c.differ_in_sign.ensures ∙ same_signs _ _ _ _ (kept c.self.inside.num c.self.invariant.0) (kept c.other.inside.num c.other.invariant.0) in (
      lowest_same _ _ _ _ _ (lowest_at _ _ _ _ _ _ _ here sign refl refl) c.with_sign.ensures.num c.with_sign.ensures.den,
      lowest_held _ _ _ _ here (product_held c.unsigned_abs-size.result _ c.unsigned_abs-other_size.result _ _ _ _ (let small = short_num _ _ _ left c.requires.short in omega arith) (let small = short_num _ _ _ right c.requires.other_short in omega arith) c.quotient_words.ensures c.quotient_words-2.ensures c.wide_product-num.ensures) (product_held c.self.inside.den _ c.other.inside.den _ _ _ _ (short_den _ _ _ left c.requires.short) (short_den _ _ _ right c.requires.other_short) c.quotient_words-3.ensures c.quotient_words-4.ensures c.wide_product-den.ensures),
    )
