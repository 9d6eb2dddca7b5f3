use Rattle.std.proofs.Common.{◌≡◌, ℤ, ℕ, List, pos, ◌++◌, ◌-◌, ◌^◌, ◌<◌, ◌≤◌, Err, ◌+ℤ◌, ◌-ℤ◌, length, ap, sym, refl, ◌∙◌, arith, subst, true, to_z, of_z}
use Rattle.std.specs.Int.{w128}
use Rattle.std.specs.Prelude.{unsigned_abs}
use Rattle.std.specs.Str.{all_ascii_digits}
use Rattle.std.proofs.lemmas.Bool.{cond-true}
use Rattle.std.proofs.lemmas.Int.{ints}
use Rattle.vlp_reader.specs.Number.{is_natural, without_leading_zeros, without_trailing_zeros, significant, number_at, power}
use Rattle.vlp_reader.specs.declared.fault.FileKind.TheVariants.{BadNumber}
use Rattle.vlp_reader.proofs.Digits.{digits-leading, digits-trailing, digits-natural}
use Rattle.vlp_reader.proofs.Zeros.{length-trailing}
use Rattle.vlp_reader.proofs.number.number_from.Goals as goal

exact_power : (exponent : ℤ) (p a b places long short : ℕ) → unsigned_abs exponent < 2 ^ 32 → p < 2 ^ 64 → a < 2 ^ 64 → p ≡ places → a ≡ long → b ≡ short → short ≤ long
    → to_z w128 (of_z w128 (to_z w128 (of_z w128 (to_z w128 (of_z w128 exponent) -ℤ to_z w128 p)) +ℤ to_z w128 (a - b))) ≡ exponent -ℤ pos places +ℤ pos (long - short)
exact_power exponent p a b places long short e q l at one two less = omega (arith, ints)

pub overflow_sub-zeros : goal.overflow_sub-zeros
overflow_sub-zeros c =
    let ds = c.args.digits.whole.now ++ c.args.digits.decimals.now in
    let one : c.len.result ≡ length (without_leading_zeros ds) = c.len.ensures ∙ ap length c.without_leading_zeros-leading.ensures in
    let two : c.len-2.result ≡ length (significant ds) = c.len-2.ensures ∙ ap length (c.without_trailing_zeros-significant.ensures ∙ ap without_trailing_zeros c.without_leading_zeros-leading.ensures) in
    let less = length-trailing (without_leading_zeros ds) in
    omega arith

pub number_at-requires : goal.number_at-requires
number_at-requires c =
    let ds = c.args.digits.whole.now ++ c.args.digits.decimals.now in
    let natural : is_natural ds ≡ true = sym c.if-not-is_natural.ensures in
    subst (λ (l : List ℕ). all_ascii_digits l ≡ true) (sym (c.without_trailing_zeros-significant.ensures ∙ ap without_trailing_zeros c.without_leading_zeros-leading.ensures))
    (digits-trailing (without_leading_zeros ds) (digits-leading ds (digits-natural ds natural)))

pub returns : goal.returns
returns c =
    let ds = c.args.digits.whole.now ++ c.args.digits.decimals.now in
    let places = length c.args.digits.decimals.now in
    let natural : is_natural ds ≡ true = sym c.if-not-is_natural.ensures in
    let one : c.len.result ≡ length (without_leading_zeros ds) = c.len.ensures ∙ ap length c.without_leading_zeros-leading.ensures in
    let two : c.len-2.result ≡ length (significant ds) = c.len-2.ensures ∙ ap length (c.without_trailing_zeros-significant.ensures ∙ ap without_trailing_zeros c.without_leading_zeros-leading.ensures) in
    let less = length-trailing (without_leading_zeros ds) in
    let digits : c.without_trailing_zeros-significant.result.whole.now ++ c.without_trailing_zeros-significant.result.decimals.now ≡ significant ds =
    c.without_trailing_zeros-significant.ensures ∙ ap without_trailing_zeros c.without_leading_zeros-leading.ensures in
    let scale : to_z w128 (of_z w128 (to_z w128 (of_z w128 (to_z w128 (of_z w128 c.args.exponent) -ℤ to_z w128 places)) +ℤ to_z w128 (c.len.result - c.len-2.result))) ≡ power ds places c.args.exponent =
    exact_power c.args.exponent places c.len.result c.len-2.result places (length (without_leading_zeros ds)) (length (significant ds)) c.requires (omega arith) c.len.type_inv refl one two less in
    c.number_at.ensures
    ∙ ap (λ (l : List ℕ). number_at c.args.negative l (to_z w128 (of_z w128 (to_z w128 (of_z w128 (to_z w128 (of_z w128 c.args.exponent) -ℤ to_z w128 places)) +ℤ to_z w128 (c.len.result - c.len-2.result))))) digits
    ∙ ap (number_at c.args.negative (significant ds)) scale
    ∙ sym (cond-true (is_natural ds) (number_at c.args.negative (significant ds) (power ds places c.args.exponent)) (Err BadNumber) natural)
