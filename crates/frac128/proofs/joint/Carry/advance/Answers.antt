use Rattle.std.proofs.Common.{◌≡◌, ◌<◌, pos, ◌^◌, ◌+◌, unsigned_abs, sym, ap, ◌∙◌, arith}
use mir.Syntax.{w128}
use mir.Val.{to_z}
use Rattle.std.proofs.lemmas.Int.{ints, to_z-of_z, to_z_pos, fits_signed_from_abs}
use Rattle.std.proofs.lemmas.Nat.{pow-add}
use Rattle.frac128.specs.Mixed.{mixed_value}
use Rattle.frac128.proofs.Carry.{digit_value, turn_value, scaled_thrice, few_carried}
use Rattle.frac128.proofs.Signs.{kept}
use Rattle.frac128.proofs.joint.Carry.advance.Goals as goal

pub plus_scaled-with_first-requires-clause-sum_small : goal.plus_scaled-with_first-requires-clause-sum_small
plus_scaled-with_first-requires-clause-sum_small c =
    let few : c.divide-carried.result.0 < 64 = few_carried c.args.divisor c.divide-carried.result.0 c.divide-carried.result.1 c.args.self.sum.rest c.args.first.rest c.args.second.rest c.digit-x.result.0 c.digit-y.result.0 c.divide-carried.ensures.whole c.requires.sum_rest c.requires.first_rest c.requires.second_rest c.digit-x.ensures.digit_small c.digit-y.ensures.digit_small in
    let same : to_z w128 c.divide-carried.result.0 ≡ pos c.divide-carried.result.0 = to_z_pos w128 c.divide-carried.result.0 (omega arith) in
    omega (arith, ints)

pub plus_scaled-with_both-requires-clause-sum_small : goal.plus_scaled-with_both-requires-clause-sum_small
plus_scaled-with_both-requires-clause-sum_small c =
    let few : c.divide-carried.result.0 < 64 = few_carried c.args.divisor c.divide-carried.result.0 c.divide-carried.result.1 c.args.self.sum.rest c.args.first.rest c.args.second.rest c.digit-x.result.0 c.digit-y.result.0 c.divide-carried.ensures.whole c.requires.sum_rest c.requires.first_rest c.requires.second_rest c.digit-x.ensures.digit_small c.digit-y.ensures.digit_small in
    let same : to_z w128 c.divide-carried.result.0 ≡ pos c.divide-carried.result.0 = to_z_pos w128 c.divide-carried.result.0 (omega arith) in
    omega (arith, ints, c.plus_scaled-with_first.ensures.size)

pub plus_scaled-whole-requires-clause-sum_small : goal.plus_scaled-whole-requires-clause-sum_small
plus_scaled-whole-requires-clause-sum_small c =
    let few : c.divide-carried.result.0 < 64 = few_carried c.args.divisor c.divide-carried.result.0 c.divide-carried.result.1 c.args.self.sum.rest c.args.first.rest c.args.second.rest c.digit-x.result.0 c.digit-y.result.0 c.divide-carried.ensures.whole c.requires.sum_rest c.requires.first_rest c.requires.second_rest c.digit-x.ensures.digit_small c.digit-y.ensures.digit_small in
    let same : to_z w128 c.divide-carried.result.0 ≡ pos c.divide-carried.result.0 = to_z_pos w128 c.divide-carried.result.0 (omega arith) in
    let first = ap unsigned_abs (to_z-of_z w128 c.plus_scaled-with_first.result (record { sfits = c.plus_scaled-with_first.type_inv })) in
    let both = ap unsigned_abs (to_z-of_z w128 c.plus_scaled-with_both.result (record { sfits = c.plus_scaled-with_both.type_inv })) in
    let size_first = c.plus_scaled-with_first.ensures.size in
    let size_both = c.plus_scaled-with_both.ensures.size in
    omega (arith, ap unsigned_abs same, ap unsigned_abs (kept c.args.first.whole c.requires.first_small), ap unsigned_abs (kept c.args.second.whole c.requires.second_small))

pub returns-clause-value : goal.returns-clause-value
returns-clause-value c =
    let few : c.divide-carried.result.0 < 64 = few_carried c.args.divisor c.divide-carried.result.0 c.divide-carried.result.1 c.args.self.sum.rest c.args.first.rest c.args.second.rest c.digit-x.result.0 c.digit-y.result.0 c.divide-carried.ensures.whole c.requires.sum_rest c.requires.first_rest c.requires.second_rest c.digit-x.ensures.digit_small c.digit-y.ensures.digit_small in
    let whole = to_z-of_z w128 c.plus_scaled-whole.result (record { sfits = c.plus_scaled-whole.type_inv }) in
    let quotient = whole ∙ scaled_thrice _ _ _ c.args.self.sum.whole c.args.first.whole c.args.second.whole _ _ _ _ _ _ c.digit-x.result.0 c.digit-y.result.0 c.divide-carried.result.0
    c.plus_scaled-with_first.ensures.value c.plus_scaled-with_both.ensures.value c.plus_scaled-whole.ensures.value
    (to_z_pos w128 c.divide-carried.result.0 (omega arith))
    (kept c.args.first.whole c.requires.first_small) (kept c.args.second.whole c.requires.second_small)
    (to_z-of_z w128 c.args.self.sum.whole (fits_signed_from_abs w128 c.args.self.sum.whole (omega arith)))
    (to_z-of_z w128 c.plus_scaled-with_first.result (record { sfits = c.plus_scaled-with_first.type_inv }))
    (to_z-of_z w128 c.plus_scaled-with_both.result (record { sfits = c.plus_scaled-with_both.type_inv })) in
    turn_value (2 ^ c.args.place) (2 ^ (c.args.place + 4)) (mixed_value c.args.divisor c.args.self.sum) (mixed_value c.args.divisor c.args.first) (mixed_value c.args.divisor c.args.second) _ c.digit-x.result.0 c.digit-y.result.0 c.digit-x.result.1 c.digit-y.result.1 c.args.self.left c.args.self.right
    (digit_value c.args.divisor _ c.args.self.sum.whole c.args.first.whole c.args.second.whole c.divide-carried.result.1 c.args.self.sum.rest c.args.first.rest c.args.second.rest c.digit-x.result.0 c.digit-y.result.0 c.divide-carried.result.0 quotient c.divide-carried.ensures.whole)
    c.digit-x.ensures.value c.digit-y.ensures.value (sym (pow-add 2 c.args.place 4))
