use Rattle.std.proofs.Common.{ap, ◌∙◌, arith, length, map, subst, sym}
use Rattle.std.proofs.lemmas.List.{length-map}
use Rattle.exact_field.specs.Rational.{◌<ℚ◌, zero_ℚ}
use Rattle.exact_field.specs.Vector.{dot}
use Rattle.lineality.proofs.Masks.{dot-without}
use Rattle.polyhedra.specs.Exactness.{row_of}
use Rattle.outer_approx.specs.Cuts.{said_by}
use Rattle.benson_primal.proofs.Asked.{row_long}
use Rattle.benson_primal.proofs.nearby.violates.Goals as goal

pub dot-requires : goal.dot-requires
dot-requires g c =
    let value = g.F.Field.value in
    let cut = c.args.cut.now in
    let row = c.as_slice.result.now in
    let bs = c.args.places.now in
    let row_is = ap (map value) c.as_slice.ensures.items ∙ c.in_ok-row.ensures in
    let long = sym (length-map row value) ∙ ap length row_is ∙ row_long value cut bs c.requires.places in
    let short = c.requires.generator in
    omega (arith, long, short)

pub returns-in-Ok : goal.returns-in-Ok
returns-in-Ok g c =
    let value = g.F.Field.value in
    let cut = c.args.cut.now in
    let bs = c.args.places.now in
    let short = map value c.args.generator.now in
    let row_is = ap (map value) c.as_slice.ensures.items ∙ c.in_ok-row.ensures in
    let product_is = c.in-Ok.ensures.ok ∙ ap (λ r. dot r short) row_is ∙ dot-without bs (row_of (said_by value cut)) short in
    λ yes. subst (λ q. q <ℚ zero_ℚ) product_is (c.is_negative.ensures.fact.0 yes)
