use Rattle.std.proofs.Common.{◌≡◌, ℕ, ℤ, pos, ◌*ℤ◌, ◌<ℤ◌, ◌≤ℤ◌, ◌^◌, ap, sym, ◌∙◌, arith, subst, to_z, of_z, to_z-of_z, FitsSigned, Ok}
use Rattle.std.specs.Int.{w128}
use Rattle.std.specs.Prelude.{unsigned_abs}
use Rattle.std.proofs.lemmas.Bool.{cond-false}
use Rattle.std.proofs.lemmas.Int.{ints}
use Rattle.exact_field.specs.Rational.{whole, fraction}
use Rattle.exact_field.proofs.RationalLaws.{fraction-one}
use Rattle.frac128.specs.Held.{is_held}
use Rattle.vlp_reader.specs.Number.{held_number, scaled}
use Rattle.vlp_reader.proofs.Powers.{power_positive, scaled_below, scaled_from_zero, wide}
use Rattle.vlp_reader.proofs.number.scale_digits.Goals as goal

pub held_fraction-requires : goal.held_fraction-requires
held_fraction-requires c =
    let value = c.power_of_ten-scale.ensures.value in
    let fits = c.power_of_ten-scale.type_inv in
    let positive = power_positive c.unsigned_abs.result in
    omega (arith, ints)

pub returns-then-power-lt0 : goal.returns-then-power-lt0
returns-then-power-lt0 c =
    let digits = c.args.digits in
    let power = c.args.power in
    let fits = c.power_of_ten-scale.type_inv in
    let digits_is : to_z w128 (of_z w128 digits) ≡ digits = omega (arith, ints) in
    let power_is : to_z w128 (of_z w128 power) ≡ power = omega (arith, ints) in
    let scale_is : to_z w128 (of_z w128 c.power_of_ten-scale.result) ≡ c.power_of_ten-scale.result = omega (arith, ints) in
    let below : power <ℤ pos 0 = omega (arith, ints) in
    c.held_fraction.ensures
    ∙ ap held_number (
    ap (λ (m : ℤ). fraction m (unsigned_abs (to_z w128 (of_z w128 c.power_of_ten-scale.result)))) digits_is
    ∙ ap (λ (s : ℤ). fraction digits (unsigned_abs s)) (scale_is ∙ c.power_of_ten-scale.ensures.value ∙ ap (λ (k : ℕ). pos (10 ^ k)) (c.unsigned_abs.ensures.value ∙ ap unsigned_abs power_is))
    ∙ sym (scaled_below digits power below))

pub returns-in-Some : goal.returns-in-Some
returns-in-Some c =
    let digits = c.args.digits in
    let power = c.args.power in
    let fits = c.power_of_ten-scale.type_inv in
    let digits_is : to_z w128 (of_z w128 digits) ≡ digits = omega (arith, ints) in
    let power_is : to_z w128 (of_z w128 power) ≡ power = omega (arith, ints) in
    let scale_is : to_z w128 (of_z w128 c.power_of_ten-scale.result) ≡ c.power_of_ten-scale.result = omega (arith, ints) in
    let product = c.in-Some.ensures in
    let from_zero : pos 0 ≤ℤ power = omega (arith, ints) in
    let whole_is : to_z w128 (of_z w128 c.in-Some.whole) ≡ c.in-Some.whole = to_z-of_z {w = w128} {z = c.in-Some.whole} (subst (FitsSigned w128) (sym product.1) product.0) in
    c.held_fraction-in-Some.ensures
    ∙ ap held_number (
    fraction-one (to_z w128 (of_z w128 c.in-Some.whole))
    ∙ ap whole (whole_is ∙ product.1
    ∙ ap (λ (m : ℤ). m *ℤ to_z w128 (of_z w128 c.power_of_ten-scale.result)) digits_is
    ∙ ap (λ (s : ℤ). digits *ℤ s) (scale_is ∙ c.power_of_ten-scale.ensures.value ∙ ap (λ (k : ℕ). pos (10 ^ k)) (c.unsigned_abs.ensures.value ∙ ap unsigned_abs power_is)))
    ∙ sym (scaled_from_zero digits power from_zero))

pub returns-in-None : goal.returns-in-None
returns-in-None c =
    let digits = c.args.digits in
    let power = c.args.power in
    let fits = c.power_of_ten-scale.type_inv in
    let digits_is : to_z w128 (of_z w128 digits) ≡ digits = omega (arith, ints) in
    let power_is : to_z w128 (of_z w128 power) ≡ power = omega (arith, ints) in
    let scale_is : to_z w128 (of_z w128 c.power_of_ten-scale.result) ≡ c.power_of_ten-scale.result = omega (arith, ints) in
    let from_zero : pos 0 ≤ℤ power = omega (arith, ints) in
    let product : ℤ = to_z w128 (of_z w128 digits) *ℤ to_z w128 (of_z w128 c.power_of_ten-scale.result) in
    let same : scaled digits power ≡ whole product =
    scaled_from_zero digits power from_zero
    ∙ ap whole (sym (ap (λ (m : ℤ). m *ℤ to_z w128 (of_z w128 c.power_of_ten-scale.result)) digits_is
    ∙ ap (λ (s : ℤ). digits *ℤ s) (scale_is ∙ c.power_of_ten-scale.ensures.value ∙ ap (λ (k : ℕ). pos (10 ^ k)) (c.unsigned_abs.ensures.value ∙ ap unsigned_abs power_is)))) in
    sym (ap held_number same ∙ cond-false (is_held (whole product)) (Ok (whole product)) _ (wide product c.in-None.ensures))
