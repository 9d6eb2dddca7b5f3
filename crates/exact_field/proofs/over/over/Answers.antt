use mir.Syntax.{w128}
use Rattle.std.specs.Prelude.{ℤ, ◌≡◌, ◌*ℤ◌}
use Rattle.std.proofs.Common.{to_z, of_z, to_z-of_z, arith, sym, ap, ap₂, ◌∙◌}
use Rattle.std.proofs.lemmas.Int.{ints}
use Rattle.std.proofs.lemmas.Option.{IfSome_then}
use Rattle.exact_field.specs.Rational.{whole}
use Rattle.exact_field.proofs.Numerators.{numerator_over}
use Rattle.exact_field.proofs.over.over.Goals as goal

pub returns : goal.returns
returns g c =
    let x = g.F.Field.value c.args.x in
    let num_is : to_z w128 (of_z w128 c.num.result) ≡ c.num.result = to_z-of_z {w = w128} (record { sfits = c.num.type_inv }) in
    let den_is : to_z w128 (of_z w128 c.den.result) ≡ c.den.result = to_z-of_z {w = w128} (record { sfits = c.den.type_inv }) in
    let all_is : to_z w128 (of_z w128 c.args.den) ≡ c.args.den = to_z-of_z c.ranges.den in
    let by_is : to_z w128 (of_z w128 c.in_ok-by.by) ≡ c.in_ok-by.by = omega (arith, ints) in
    IfSome_then c.times.result c.times.ensures (λ n h. (
      ap whole (h.0 ∙ ap₂ (λ (a b : ℤ). a *ℤ b) num_is by_is)
          ∙ numerator_over x c.num.result c.args.den c.in_ok-by.by c.den.result c.num.ensures.part c.den.ensures.part
          (ap (λ (z : ℤ). c.in_ok-by.by *ℤ z) (sym den_is) ∙ c.in_ok-by.ensures ∙ all_is),
      h.1,
    ))
