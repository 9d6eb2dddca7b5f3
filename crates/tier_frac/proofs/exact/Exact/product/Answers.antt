use Rattle.std.proofs.Common.{refl}
use Rattle.std.proofs.Math.Nat.{pos_of_dvd_of_pos}
use Rattle.frac128.proofs.Lowest.{lowest_at, lowest_positive, lowest_coprime, lowest_same}
use Rattle.tier_frac.proofs.Products.{product_of_lowest}
use Rattle.tier_frac.proofs.exact.Exact.product.Goals as goal

pub quotient_words-requires : goal.quotient_words-requires
quotient_words-requires c = pos_of_dvd_of_pos c.gcd_words-first.ensures.1 c.requires.d_positive

pub quotient_words-requires-2 : goal.quotient_words-requires-2
quotient_words-requires-2 c = pos_of_dvd_of_pos c.gcd_words-second.ensures.1 c.requires.b_positive

pub quotient_words-requires-3 : goal.quotient_words-requires-3
quotient_words-requires-3 c = pos_of_dvd_of_pos c.gcd_words-second.ensures.1 c.requires.b_positive

pub quotient_words-requires-4 : goal.quotient_words-requires-4
quotient_words-requires-4 c = pos_of_dvd_of_pos c.gcd_words-first.ensures.1 c.requires.d_positive

pub of-requires : goal.of-requires
of-requires c =
    let exact = product_of_lowest c.args.negative c.args.x c.args.b c.args.y c.args.d _ _ _ _ _ _ c.requires.b_positive c.requires.d_positive c.requires.lowest c.requires.other_lowest
    c.gcd_words-first.ensures c.gcd_words-second.ensures c.quotient_words.ensures c.quotient_words-2.ensures c.quotient_words-3.ensures c.quotient_words-4.ensures in
    let here = lowest_at _ _ _ _ c.wide_product-num.result _ c.wide_product-den.result exact refl c.wide_product-num.ensures c.wide_product-den.ensures in
    record { positive = lowest_positive _ _ _ _ here; lowest = lowest_coprime _ _ _ _ here }

pub returns : goal.returns
returns c =
    let exact = product_of_lowest c.args.negative c.args.x c.args.b c.args.y c.args.d _ _ _ _ _ _ c.requires.b_positive c.requires.d_positive c.requires.lowest c.requires.other_lowest
    c.gcd_words-first.ensures c.gcd_words-second.ensures c.quotient_words.ensures c.quotient_words-2.ensures c.quotient_words-3.ensures c.quotient_words-4.ensures in
    let here = lowest_at _ _ _ _ c.wide_product-num.result _ c.wide_product-den.result exact refl c.wide_product-num.ensures c.wide_product-den.ensures in
    lowest_same _ _ _ _ _ here c.of.ensures.num c.of.ensures.den
