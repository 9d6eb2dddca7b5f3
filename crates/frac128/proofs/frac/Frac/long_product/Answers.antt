use Rattle.std.proofs.Common.{◌≡◌, unsigned_abs, ◌∙◌, arith, refl}
use Rattle.std.proofs.lemmas.Int.{ints}
use Rattle.frac128.specs.Signed.{differ, is_below_zero}
use Rattle.frac128.proofs.Lowest.{product_lowest, stored, lowest_at, lowest_positive, lowest_coprime, lowest_held, lowest_wide_num, lowest_wide_den, lowest_same}
use Rattle.frac128.proofs.Signs.{kept, same_signs}
use Rattle.frac128.proofs.frac.Frac.long_product.Goals as goal

pub returns-in_err-num : goal.returns-in_err-num
returns-in_err-num c =
    let ex : c.unsigned_abs-size.result ≡ unsigned_abs c.self.inside.num = omega (arith, ints, c.unsigned_abs-size.ensures.value) in
    let ey : c.unsigned_abs-other_size.result ≡ unsigned_abs c.other.inside.num = omega (arith, ints, c.unsigned_abs-other_size.ensures.value) in
    let exact = product_lowest c.args.self c.args.other c.self.inside.num c.other.inside.num c.self.inside.den c.other.inside.den _ _ _ _ _ _ _ _
    (stored _ _ c.self.view_is) (stored _ _ c.other.view_is) ex ey c.gcd-first.ensures.gcd c.gcd-second.ensures.gcd c.exact_quotient.ensures c.exact_quotient-2.ensures refl refl in
    rw c.from_residual.ensures (let wide = c.in_err-num.ensures in lowest_wide_num _ _ _ _ exact (omega arith))

pub returns-in_err-den : goal.returns-in_err-den
returns-in_err-den c =
    let ex : c.unsigned_abs-size.result ≡ unsigned_abs c.self.inside.num = omega (arith, ints, c.unsigned_abs-size.ensures.value) in
    let ey : c.unsigned_abs-other_size.result ≡ unsigned_abs c.other.inside.num = omega (arith, ints, c.unsigned_abs-other_size.ensures.value) in
    let exact = product_lowest c.args.self c.args.other c.self.inside.num c.other.inside.num c.self.inside.den c.other.inside.den _ _ _ _ _ _ _ _
    (stored _ _ c.self.view_is) (stored _ _ c.other.view_is) ex ey c.gcd-first.ensures.gcd c.gcd-second.ensures.gcd c.exact_quotient.ensures c.exact_quotient-2.ensures c.exact_quotient-3.ensures c.exact_quotient-4.ensures in
    rw c.from_residual-in_err-den.ensures (let wide = c.in_err-den.ensures in lowest_wide_den _ _ _ _ exact (omega arith))

pub with_sign-requires-clause-positive : goal.with_sign-requires-clause-positive
with_sign-requires-clause-positive c =
    let ex : c.unsigned_abs-size.result ≡ unsigned_abs c.self.inside.num = omega (arith, ints, c.unsigned_abs-size.ensures.value) in
    let ey : c.unsigned_abs-other_size.result ≡ unsigned_abs c.other.inside.num = omega (arith, ints, c.unsigned_abs-other_size.ensures.value) in
    let exact = product_lowest c.args.self c.args.other c.self.inside.num c.other.inside.num c.self.inside.den c.other.inside.den _ _ _ _ _ _ _ _
    (stored _ _ c.self.view_is) (stored _ _ c.other.view_is) ex ey c.gcd-first.ensures.gcd c.gcd-second.ensures.gcd c.exact_quotient.ensures c.exact_quotient-2.ensures c.exact_quotient-3.ensures c.exact_quotient-4.ensures in
    let here = lowest_at _ _ _ _ c.in_ok-num.num _ c.in_ok-den.den exact refl c.in_ok-num.ensures.1 c.in_ok-den.ensures.1 in
    lowest_positive _ _ _ _ here

pub with_sign-requires-clause-lowest : goal.with_sign-requires-clause-lowest
with_sign-requires-clause-lowest c =
    let ex : c.unsigned_abs-size.result ≡ unsigned_abs c.self.inside.num = omega (arith, ints, c.unsigned_abs-size.ensures.value) in
    let ey : c.unsigned_abs-other_size.result ≡ unsigned_abs c.other.inside.num = omega (arith, ints, c.unsigned_abs-other_size.ensures.value) in
    let exact = product_lowest c.args.self c.args.other c.self.inside.num c.other.inside.num c.self.inside.den c.other.inside.den _ _ _ _ _ _ _ _
    (stored _ _ c.self.view_is) (stored _ _ c.other.view_is) ex ey c.gcd-first.ensures.gcd c.gcd-second.ensures.gcd c.exact_quotient.ensures c.exact_quotient-2.ensures c.exact_quotient-3.ensures c.exact_quotient-4.ensures in
    let here = lowest_at _ _ _ _ c.in_ok-num.num _ c.in_ok-den.den exact refl c.in_ok-num.ensures.1 c.in_ok-den.ensures.1 in
    lowest_coprime _ _ _ _ here

pub returns : goal.returns
returns c =
    let ex : c.unsigned_abs-size.result ≡ unsigned_abs c.self.inside.num = omega (arith, ints, c.unsigned_abs-size.ensures.value) in
    let ey : c.unsigned_abs-other_size.result ≡ unsigned_abs c.other.inside.num = omega (arith, ints, c.unsigned_abs-other_size.ensures.value) in
    let exact = product_lowest c.args.self c.args.other c.self.inside.num c.other.inside.num c.self.inside.den c.other.inside.den _ _ _ _ _ _ _ _
    (stored _ _ c.self.view_is) (stored _ _ c.other.view_is) ex ey c.gcd-first.ensures.gcd c.gcd-second.ensures.gcd c.exact_quotient.ensures c.exact_quotient-2.ensures c.exact_quotient-3.ensures c.exact_quotient-4.ensures in
    let sign : c.differ_in_sign.result ≡ differ (is_below_zero c.self.inside.num) (is_below_zero c.other.inside.num) = c.differ_in_sign.ensures ∙ same_signs _ _ _ _ (kept c.self.inside.num c.self.invariant.0) (kept c.other.inside.num c.other.invariant.0) in
    let here = lowest_at _ _ c.differ_in_sign.result _ c.in_ok-num.num _ c.in_ok-den.den exact sign c.in_ok-num.ensures.1 c.in_ok-den.ensures.1 in
    (lowest_same _ _ _ _ _ here c.with_sign.ensures.num c.with_sign.ensures.den, lowest_held _ _ _ _ here (omega (arith, c.in_ok-num.ensures.0, c.in_ok-num.ensures.1)) (omega (arith, c.in_ok-den.ensures.0, c.in_ok-den.ensures.1)))
