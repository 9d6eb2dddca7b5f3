use Rattle.std.proofs.Common.{◌≡◌, unsigned_abs, ◌∙◌, arith}
use Rattle.std.proofs.lemmas.Int.{ints}
use Rattle.frac128.proofs.Compared.{cmp_same_den, cmp_nonnegative, cmp_negative, cmp_signs, cmp_signs_turned, sign_from_test}
use Rattle.frac128.proofs.Lowest.{stored}
use Rattle.frac128.proofs.frac.FracOrd.cmp.Goals as goal

pub returns-then-self-other : goal.returns-then-self-other
returns-then-self-other c = c.cmp.ensures ∙ cmp_same_den c.args.self.now c.args.other.now c.self.inside.num c.other.inside.num c.self.inside.den c.other.inside.den (stored _ _ c.self.view_is) (stored _ _ c.other.view_is) c.if-self-other.true

pub returns-in-true-true : goal.returns-in-true-true
returns-in-true-true c =
    let left = sign_from_test c.self.inside.num _ c.self.invariant.0 c.in-true-true.is-0 in
    let right = sign_from_test c.other.inside.num _ c.other.invariant.0 c.in-true-true.is-1 in
    let size : c.unsigned_abs-size.result ≡ unsigned_abs c.self.inside.num = omega (arith, ints, c.unsigned_abs-size.ensures.value) in
    let other_size : c.unsigned_abs-other_size.result ≡ unsigned_abs c.other.inside.num = omega (arith, ints, c.unsigned_abs-other_size.ensures.value) in
    c.compare.ensures ∙ cmp_negative c.args.self.now c.args.other.now c.self.inside.num c.other.inside.num c.self.inside.den c.other.inside.den _ _ (stored _ _ c.self.view_is) (stored _ _ c.other.view_is) size other_size left right

pub returns-in-true-false : goal.returns-in-true-false
returns-in-true-false c =
    let left = sign_from_test c.self.inside.num _ c.self.invariant.0 c.in-true-false.is-0 in
    let right = sign_from_test c.other.inside.num _ c.other.invariant.0 c.in-true-false.is-1 in
    cmp_signs c.args.self.now c.args.other.now c.self.inside.num c.other.inside.num c.self.inside.den c.other.inside.den (stored _ _ c.self.view_is) (stored _ _ c.other.view_is) left right

pub returns-in-false-true : goal.returns-in-false-true
returns-in-false-true c =
    let left = sign_from_test c.self.inside.num _ c.self.invariant.0 c.in-false-true.is-0 in
    let right = sign_from_test c.other.inside.num _ c.other.invariant.0 c.in-false-true.is-1 in
    cmp_signs_turned c.args.self.now c.args.other.now c.self.inside.num c.other.inside.num c.self.inside.den c.other.inside.den (stored _ _ c.self.view_is) (stored _ _ c.other.view_is) left right

pub returns-in-false-false : goal.returns-in-false-false
returns-in-false-false c =
    let left = sign_from_test c.self.inside.num _ c.self.invariant.0 c.in-false-false.is-0 in
    let right = sign_from_test c.other.inside.num _ c.other.invariant.0 c.in-false-false.is-1 in
    let size : c.unsigned_abs-size.result ≡ unsigned_abs c.self.inside.num = omega (arith, ints, c.unsigned_abs-size.ensures.value) in
    let other_size : c.unsigned_abs-other_size.result ≡ unsigned_abs c.other.inside.num = omega (arith, ints, c.unsigned_abs-other_size.ensures.value) in
    c.compare-in-false-false.ensures ∙ cmp_nonnegative c.args.self.now c.args.other.now c.self.inside.num c.other.inside.num c.self.inside.den c.other.inside.den _ _ (stored _ _ c.self.view_is) (stored _ _ c.other.view_is) size other_size left right
