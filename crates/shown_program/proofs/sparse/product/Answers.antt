use Rattle.std.proofs.Common.{◌∙◌, ap, arith, length, map}
use Rattle.exact_field.specs.Rational.{◌+ℚ◌, ◌*ℚ◌}
use Rattle.exact_field.proofs.Rationals.{zero-add_ℚ}
use Rattle.lin_rows.specs.Lines.{entries}
use Rattle.program_columns.proofs.Listed.{place_in}
use Rattle.program_columns.proofs.Multiples.{weighed, weighed_end, weighed_more}
use Rattle.shown_program.proofs.sparse.product.Goals as goal

pub loop-spot-init : goal.loop-spot-init
loop-spot-init g c =
    let value = g.F.Field.value in
    let rest = weighed (entries value c.args.spots.now) (map value c.args.y.now) in
    ap (λ q. q +ℚ rest) c.zero-total.ensures ∙ zero-add_ℚ rest

pub number_at-requires : goal.number_at-requires
number_at-requires g c =
    let place = place_in (length c.args.y.now) 0 c.args.spots.now c.loop-spot.spot-index
    c.spot-item.result c.requires c.loop-spot-test.true c.spot-item.is in
    record { low = omega (arith, place.0); high = place.1 }

pub loop-spot-preserved : goal.loop-spot-preserved
loop-spot-preserved g c =
    let value = g.F.Field.value in
    let spot = c.spot-item.result in
    weighed_more value c.args.spots.now c.loop-spot.spot-index spot (map value c.args.y.now)
    (weighed (entries value c.args.spots.now) (map value c.args.y.now)) (value c.loop-spot.total)
    (value c.in-Ok.sum) c.loop-spot-test.true c.spot-item.is
    (c.in-Ok.ensures.ok ∙ ap (λ q. value c.loop-spot.total +ℚ value spot.value *ℚ q)
    c.number_at.ensures)
    c.loop-spot.invariant

pub returns : goal.returns
returns g c =
    let value = g.F.Field.value in
    weighed_end value c.args.spots.now c.loop-spot.spot-index c.args.y.now
    (value c.loop-spot.total) (omega arith) c.requires c.loop-spot.invariant
