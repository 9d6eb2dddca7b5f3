use Rattle.std.proofs.Common.{ℤ, ◌≤◌, ◌^◌, ◌*◌, unsigned_abs, subst, ◌∙◌, arith, refl}
use Rattle.std.proofs.Math.Nat.{le_of_dvd, dvd_trans, div-le_self}
use Rattle.frac128.proofs.Carried.{same_total}
use Rattle.frac128.proofs.Lowest.{sum_lowest, sum_wide, stored, lowest_at, lowest_positive, lowest_coprime, lowest_held, lowest_wide_num, lowest_wide_den, lowest_same}
use Rattle.frac128.proofs.Signs.{kept}
use Rattle.frac128.proofs.frac.Frac.long_sum.Goals as goal

pub returns-in_err-sum : goal.returns-in_err-sum
returns-in_err-sum c =
    let total = same_total c.self.inside.num c.other.inside.num _ _ c.exact_quotient-right.result c.exact_quotient-left.result (kept c.self.inside.num c.self.invariant.0) (kept c.other.inside.num c.other.invariant.0) in
    rw c.from_residual.ensures
    (sum_wide c.args.self c.args.other c.self.inside.num c.other.inside.num c.self.inside.den c.other.inside.den _ _ _
    (stored _ _ c.self.view_is) (stored _ _ c.other.view_is) (c.gcd-common.ensures.positive c.other.inside.positive) c.gcd-common.ensures.gcd c.exact_quotient-left.ensures c.exact_quotient-right.ensures
    (subst (λ (t : ℤ). 2 ^ 120 * c.gcd-common.result ≤ unsigned_abs t) total c.in_err-sum.ensures))

pub returns-in_err-num : goal.returns-in_err-num
returns-in_err-num c =
    let total = c.in_ok-sum.ensures.value ∙ same_total c.self.inside.num c.other.inside.num _ _ c.exact_quotient-right.result c.exact_quotient-left.result (kept c.self.inside.num c.self.invariant.0) (kept c.other.inside.num c.other.invariant.0) in
    let exact = sum_lowest c.args.self c.args.other c.self.inside.num c.other.inside.num c.self.inside.den c.other.inside.den _ _ _ c.in_ok-sum.sum.negative c.in_ok-sum.sum.whole c.in_ok-sum.sum.rest _ _ _ _
    (stored _ _ c.self.view_is) (stored _ _ c.other.view_is) c.gcd-common.ensures.gcd c.exact_quotient-left.ensures c.exact_quotient-right.ensures total c.in_ok-sum.ensures.rest c.gcd-shared.ensures.gcd c.exact_quotient.ensures c.exact_quotient-2.ensures refl in
    rw c.from_residual-in_err-num.ensures (let wide = c.in_err-num.ensures in lowest_wide_num _ _ _ _ exact (omega arith))

pub returns-in_err-den : goal.returns-in_err-den
returns-in_err-den c =
    let total = c.in_ok-sum.ensures.value ∙ same_total c.self.inside.num c.other.inside.num _ _ c.exact_quotient-right.result c.exact_quotient-left.result (kept c.self.inside.num c.self.invariant.0) (kept c.other.inside.num c.other.invariant.0) in
    let exact = sum_lowest c.args.self c.args.other c.self.inside.num c.other.inside.num c.self.inside.den c.other.inside.den _ _ _ c.in_ok-sum.sum.negative c.in_ok-sum.sum.whole c.in_ok-sum.sum.rest _ _ _ _
    (stored _ _ c.self.view_is) (stored _ _ c.other.view_is) c.gcd-common.ensures.gcd c.exact_quotient-left.ensures c.exact_quotient-right.ensures total c.in_ok-sum.ensures.rest c.gcd-shared.ensures.gcd c.exact_quotient.ensures c.exact_quotient-2.ensures c.exact_quotient-3.ensures in
    rw c.from_residual-in_err-den.ensures (let wide = c.in_err-den.ensures in lowest_wide_den _ _ _ _ exact (omega arith))

pub with_sign-requires-clause-positive : goal.with_sign-requires-clause-positive
with_sign-requires-clause-positive c =
    let total = c.in_ok-sum.ensures.value ∙ same_total c.self.inside.num c.other.inside.num _ _ c.exact_quotient-right.result c.exact_quotient-left.result (kept c.self.inside.num c.self.invariant.0) (kept c.other.inside.num c.other.invariant.0) in
    let exact = sum_lowest c.args.self c.args.other c.self.inside.num c.other.inside.num c.self.inside.den c.other.inside.den _ _ _ c.in_ok-sum.sum.negative c.in_ok-sum.sum.whole c.in_ok-sum.sum.rest _ _ _ _
    (stored _ _ c.self.view_is) (stored _ _ c.other.view_is) c.gcd-common.ensures.gcd c.exact_quotient-left.ensures c.exact_quotient-right.ensures total c.in_ok-sum.ensures.rest c.gcd-shared.ensures.gcd c.exact_quotient.ensures c.exact_quotient-2.ensures c.exact_quotient-3.ensures in
    let here = lowest_at _ _ _ _ c.in_ok-num.num _ c.in_ok-den.den exact refl c.in_ok-num.ensures.1 c.in_ok-den.ensures.1 in
    lowest_positive _ _ _ _ here

pub with_sign-requires-clause-lowest : goal.with_sign-requires-clause-lowest
with_sign-requires-clause-lowest c =
    let total = c.in_ok-sum.ensures.value ∙ same_total c.self.inside.num c.other.inside.num _ _ c.exact_quotient-right.result c.exact_quotient-left.result (kept c.self.inside.num c.self.invariant.0) (kept c.other.inside.num c.other.invariant.0) in
    let exact = sum_lowest c.args.self c.args.other c.self.inside.num c.other.inside.num c.self.inside.den c.other.inside.den _ _ _ c.in_ok-sum.sum.negative c.in_ok-sum.sum.whole c.in_ok-sum.sum.rest _ _ _ _
    (stored _ _ c.self.view_is) (stored _ _ c.other.view_is) c.gcd-common.ensures.gcd c.exact_quotient-left.ensures c.exact_quotient-right.ensures total c.in_ok-sum.ensures.rest c.gcd-shared.ensures.gcd c.exact_quotient.ensures c.exact_quotient-2.ensures c.exact_quotient-3.ensures in
    let here = lowest_at _ _ _ _ c.in_ok-num.num _ c.in_ok-den.den exact refl c.in_ok-num.ensures.1 c.in_ok-den.ensures.1 in
    lowest_coprime _ _ _ _ here

pub returns : goal.returns
returns c =
    let total = c.in_ok-sum.ensures.value ∙ same_total c.self.inside.num c.other.inside.num _ _ c.exact_quotient-right.result c.exact_quotient-left.result (kept c.self.inside.num c.self.invariant.0) (kept c.other.inside.num c.other.invariant.0) in
    let exact = sum_lowest c.args.self c.args.other c.self.inside.num c.other.inside.num c.self.inside.den c.other.inside.den _ _ _ c.in_ok-sum.sum.negative c.in_ok-sum.sum.whole c.in_ok-sum.sum.rest _ _ _ _
    (stored _ _ c.self.view_is) (stored _ _ c.other.view_is) c.gcd-common.ensures.gcd c.exact_quotient-left.ensures c.exact_quotient-right.ensures total c.in_ok-sum.ensures.rest c.gcd-shared.ensures.gcd c.exact_quotient.ensures c.exact_quotient-2.ensures c.exact_quotient-3.ensures in
    let here = lowest_at _ _ _ _ c.in_ok-num.num _ c.in_ok-den.den exact refl c.in_ok-num.ensures.1 c.in_ok-den.ensures.1 in
    (lowest_same _ _ _ _ _ here c.with_sign.ensures.num c.with_sign.ensures.den, lowest_held _ _ _ _ here (omega (arith, c.in_ok-num.ensures.0, c.in_ok-num.ensures.1)) (omega (arith, c.in_ok-den.ensures.0, c.in_ok-den.ensures.1)))

pub numerator-requires-clause-divisor_small : goal.numerator-requires-clause-divisor_small
numerator-requires-clause-divisor_small c = omega (arith, le_of_dvd c.other.inside.positive c.gcd-common.ensures.gcd.1, c.other.invariant.1)

pub product_plus-requires : goal.product_plus-requires
product_plus-requires c =
    omega (arith, le_of_dvd c.other.inside.positive c.gcd-common.ensures.gcd.1, c.other.invariant.1, div-le_self c.in_ok-sum.sum.rest c.gcd-shared.result, c.exact_quotient-2.ensures, c.in_ok-sum.ensures.rest)

pub exact_quotient-requires-3-clause-divides : goal.exact_quotient-requires-3-clause-divides
exact_quotient-requires-3-clause-divides c = dvd_trans c.gcd-shared.result c.gcd-shared.ensures.gcd.1 c.gcd-common.ensures.gcd.1
