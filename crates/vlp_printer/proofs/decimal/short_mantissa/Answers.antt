use Rattle.std.proofs.Common.{arith, ap, sym, ◌∙◌, ◌≡◌, ◌/◌, ◌^◌, ℕ, ℤ, pos, ◌*ℤ◌, to_z, of_z, to_z-of_z, FitsSigned, subst}
use Rattle.std.specs.Int.{w128}
use Rattle.std.specs.Prelude.{unsigned_abs}
use Rattle.std.proofs.lemmas.Int.{ints}
use Rattle.std.proofs.Math.Nat.{div-le_self}
use Rattle.vlp_reader.proofs.Powers.{power_small}
use Rattle.vlp_printer.specs.Decimal.{is_short, mantissa}
use Rattle.vlp_printer.proofs.decimal.short_mantissa.Goals as goal

pub pow-requires : goal.pow-requires
pow-requires c = let small = power_small c.args.places c.requires in omega arith

pub overflow_cast-scale : goal.overflow_cast-scale
overflow_cast-scale c =
    let small = power_small c.args.places c.requires in
    let value = c.pow.ensures in
    let less = div-le_self c.pow.result c.unsigned_abs.result in
    omega (arith, ints)

pub returns-then-is_short : goal.returns-then-is_short
returns-then-is_short c =
    let small = power_small c.args.places c.requires in
    let power = c.pow.ensures in
    let less = div-le_self c.pow.result c.unsigned_abs.result in
    let num_fits = c.num.type_inv in
    let den_fits = c.den.type_inv in
    let scale : ℤ = pos (c.pow.result / c.unsigned_abs.result) in
    let num_is : to_z w128 (of_z w128 c.num.result) ≡ c.num.result = omega (arith, ints) in
    let den_is : to_z w128 (of_z w128 c.den.result) ≡ c.den.result = omega (arith, ints) in
    let scale_is : to_z w128 (of_z w128 scale) ≡ scale = omega (arith, ints) in
    let quotient : c.pow.result / c.unsigned_abs.result ≡ 10 ^ c.args.places / c.args.number.den =
    ap (λ (p : ℕ). p / c.unsigned_abs.result) c.pow.ensures
    ∙ ap (λ (d : ℕ). 10 ^ c.args.places / d) (c.unsigned_abs.ensures.value ∙ ap unsigned_abs (den_is ∙ c.den.ensures.part)) in
    let product = c.in_ok-mantissa.ensures in
    let mantissa_is : to_z w128 (of_z w128 c.in_ok-mantissa.mantissa) ≡ c.in_ok-mantissa.mantissa = to_z-of_z {w = w128} {z = c.in_ok-mantissa.mantissa} (subst (FitsSigned w128) (sym product.1) product.0) in
    let same : to_z w128 (of_z w128 c.in_ok-mantissa.mantissa) ≡ mantissa c.args.number c.args.places =
    mantissa_is ∙ product.1
    ∙ ap (λ (m : ℤ). m *ℤ to_z w128 (of_z w128 scale)) (num_is ∙ c.num.ensures.part)
    ∙ ap (λ (s : ℤ). c.args.number.num *ℤ s) (scale_is ∙ ap pos quotient) in
    (sym c.is_short.ensures ∙ c.if-is_short.true, same)

pub returns-else-is_short : goal.returns-else-is_short
returns-else-is_short c =
    let small = power_small c.args.places c.requires in
    let power = c.pow.ensures in
    let less = div-le_self c.pow.result c.unsigned_abs.result in
    let num_fits = c.num.type_inv in
    let den_fits = c.den.type_inv in
    let scale : ℤ = pos (c.pow.result / c.unsigned_abs.result) in
    let num_is : to_z w128 (of_z w128 c.num.result) ≡ c.num.result = omega (arith, ints) in
    let den_is : to_z w128 (of_z w128 c.den.result) ≡ c.den.result = omega (arith, ints) in
    let scale_is : to_z w128 (of_z w128 scale) ≡ scale = omega (arith, ints) in
    let quotient : c.pow.result / c.unsigned_abs.result ≡ 10 ^ c.args.places / c.args.number.den =
    ap (λ (p : ℕ). p / c.unsigned_abs.result) c.pow.ensures
    ∙ ap (λ (d : ℕ). 10 ^ c.args.places / d) (c.unsigned_abs.ensures.value ∙ ap unsigned_abs (den_is ∙ c.den.ensures.part)) in
    let product = c.in_ok-mantissa.ensures in
    let mantissa_is : to_z w128 (of_z w128 c.in_ok-mantissa.mantissa) ≡ c.in_ok-mantissa.mantissa = to_z-of_z {w = w128} {z = c.in_ok-mantissa.mantissa} (subst (FitsSigned w128) (sym product.1) product.0) in
    let same : to_z w128 (of_z w128 c.in_ok-mantissa.mantissa) ≡ mantissa c.args.number c.args.places =
    mantissa_is ∙ product.1
    ∙ ap (λ (m : ℤ). m *ℤ to_z w128 (of_z w128 scale)) (num_is ∙ c.num.ensures.part)
    ∙ ap (λ (s : ℤ). c.args.number.num *ℤ s) (scale_is ∙ ap pos quotient) in
    ap is_short (sym same) ∙ sym c.is_short.ensures ∙ c.if-is_short.false
