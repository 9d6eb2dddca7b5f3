use mir.Syntax.{w128}
use Rattle.std.specs.Prelude.{ℤ, ◌≡◌, ◌*ℤ◌}
use Rattle.std.proofs.Common.{to_z, of_z, to_z-of_z, ap₂, ◌∙◌}
use Rattle.std.proofs.lemmas.Option.{IfSome_then}
use Rattle.exact_field.proofs.Numerators.{product_positive, den-positive}
use Rattle.exact_field.proofs.over.common_multiple.Goals as goal

pub returns : goal.returns
returns g c =
    let den_is : to_z w128 (of_z w128 c.den.result) ≡ c.den.result = to_z-of_z {w = w128} (record { sfits = c.den.type_inv }) in
    let d_is : to_z w128 (of_z w128 c.args.d) ≡ c.args.d = to_z-of_z c.ranges.d in
    IfSome_then c.times.result c.times.ensures
    (λ n h. (
      product_positive n c.args.d c.den.result (h.0 ∙ ap₂ (λ (a b : ℤ). a *ℤ b) d_is den_is) c.requires.first
          (den-positive (g.F.Field.value c.in_ok-ratio.ratio) c.den.result c.den.ensures.part),
      h.1,
    ))
