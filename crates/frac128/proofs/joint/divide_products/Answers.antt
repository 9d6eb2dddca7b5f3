use Rattle.std.proofs.Common.{◌≡◌, ℤ, ◌<◌, ◌≤◌, ◌*◌, ◌^◌, unsigned_abs, subst, arith}
use Rattle.std.proofs.lemmas.Int.{ints}
use Rattle.frac128.specs.Mixed.{mixed_value, IsMixed}
use Rattle.frac128.proofs.Carried.{carried_on, carried_at, carried_far, carried_all, carried_first, fewer_bits_than, same_total}
use Rattle.frac128.proofs.joint.divide_products.Goals as goal

pub loop-turns-init : goal.loop-turns-init
loop-turns-init c =
    let top : c.max.result < 2 ^ 120 = omega arith in
    let few : c.bits.result < 121 = fewer_bits_than c.bits.result c.max.result 120 c.bits.ensures.reached c.bits.ensures.zero top in
    carried_first _ _ _ _ _ c.max.result c.bits.result (4 * c.div_ceil-turns.result) c.requires.positive (omega arith) (omega arith) c.bits.ensures.below (omega arith) (omega arith)

pub loop-turns-preserved : goal.loop-turns-preserved
loop-turns-preserved c =
    carried_on _ _ _ _ _ _ _ (carried_at _ _ _ _ _ _ (omega arith) c.loop-turns.invariant)
    (record { value = c.advance-carry.ensures.value; rest = c.advance-carry.ensures.rest; left = c.advance-carry.ensures.left; right = c.advance-carry.ensures.right })
    (omega (arith, ints, c.unsigned_abs.ensures.value))

pub returns-then-unsigned_abs-ge-FAR : goal.returns-then-unsigned_abs-ge-FAR
returns-then-unsigned_abs-ge-FAR c =
    let first : mixed_value c.args.divisor c.of-first.result ≡ c.args.a = omega (arith, ints, c.of-first.ensures.value) in
    let second : mixed_value c.args.divisor c.of-second.result ≡ c.args.c = omega (arith, ints, c.of-second.ensures.value) in
    subst (λ (t : ℤ). 2 ^ 120 * c.args.divisor ≤ unsigned_abs t) (same_total _ _ _ _ c.args.x c.args.y first second)
    (carried_far _ _ _ _ _ _ _ (carried_at _ _ _ _ _ _ (omega arith) c.loop-turns.invariant)
    (record { value = c.advance-carry.ensures.value; rest = c.advance-carry.ensures.rest; left = c.advance-carry.ensures.left; right = c.advance-carry.ensures.right })
    c.requires.positive (omega (arith, ints)) (omega (arith, ints))
    (omega (arith, ints, c.unsigned_abs.ensures.value)))

pub returns : goal.returns
returns c =
    let first : mixed_value c.args.divisor c.of-first.result ≡ c.args.a = omega (arith, ints, c.of-first.ensures.value) in
    let second : mixed_value c.args.divisor c.of-second.result ≡ c.args.c = omega (arith, ints, c.of-second.ensures.value) in
    subst (λ (t : ℤ). IsMixed c.args.divisor t c.loop-turns.carry.sum) (same_total _ _ _ _ c.args.x c.args.y first second)
    (carried_all _ _ _ _ _ _ c.loop-turns.invariant (omega arith))
