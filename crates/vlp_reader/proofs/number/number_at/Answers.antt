use Rattle.std.proofs.Common.{◌≡◌, ℤ, pos, negsuc, neg_ℤ, ◌++◌, ◌≤ℤ◌, if◌then◌else◌, ap, sym, ◌∙◌, arith, to_z, of_z}
use Rattle.std.specs.Int.{w128}
use Rattle.std.specs.Str.Parse.{digits_value}
use Rattle.std.proofs.lemmas.Int.{ints}
use Rattle.frac128.specs.Signed.{signed}
use Rattle.vlp_reader.specs.Number.{held_number, scaled}
use Rattle.vlp_reader.proofs.Exponents.{signed_same}
use Rattle.vlp_reader.proofs.Powers.{number_in}
use Rattle.vlp_reader.proofs.number.number_at.Goals as goal

pub returns : goal.returns
returns c =
    let digits = c.args.digits.whole.now ++ c.args.digits.decimals.now in
    let negative = c.args.negative in
    let power = c.args.power in
    let fits = c.with_sign.type_inv in
    let value_fits = c.value.type_inv in
    let power_is : to_z w128 (of_z w128 power) ≡ power = omega (arith, ints) in
    let value_is : to_z w128 (of_z w128 c.value.result) ≡ c.value.result = omega (arith, ints) in
    let signed_is : to_z w128 (of_z w128 c.with_sign.result) ≡ c.with_sign.result = omega (arith, ints) in
    let value : c.with_sign.result ≡ signed negative (digits_value 10 digits) =
    c.with_sign.ensures ∙ ap (λ (z : ℤ). if negative then neg_ℤ z else z) (value_is ∙ c.value.ensures.value) ∙ signed_same negative (digits_value 10 digits) in
    let low : negsuc 35 ≤ℤ power = omega (arith, ints) in
    let high : power ≤ℤ pos 36 = omega (arith, ints) in
    c.scale_digits.ensures
    ∙ ap (λ (z : ℤ). held_number (scaled z (to_z w128 (of_z w128 power)))) (signed_is ∙ value)
    ∙ ap (λ (z : ℤ). held_number (scaled (signed negative (digits_value 10 digits)) z)) power_is
    ∙ sym (number_in negative digits power (omega arith) (omega arith) low high)
