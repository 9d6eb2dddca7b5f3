use Rattle.std.proofs.Common.{◌∙◌, ◌+◌, [], ap, arith, length, map, drop, sym, subst, List}
use Rattle.std.proofs.lemmas.List.{drop_all}
use Rattle.exact_field.specs.Rational.{◌+ℚ◌, ◌*ℚ◌}
use Rattle.exact_field.proofs.Rationals.{mul-zero_ℚ, zero-mul_ℚ}
use Rattle.lin_rows.specs.Lines.{entries, sum_at}
use Rattle.lin_rows.specs.declared.spots.Spot.{Spot}
use Rattle.program_columns.proofs.Listed.{place_in}
use Rattle.program_columns.proofs.Multiples.{AreAdded, added_end, added_more, added_none}
use Rattle.shown_program.proofs.sparse.add_multiple.Goals as goal

pub returns-then-is_zero : goal.returns-then-is_zero
returns-then-is_zero g c = λ yes.
    let value = g.F.Field.value in
    let es = entries value c.args.spots.now in
    added_end value (value c.args.x) c.args.spots.now es c.args.total.now
    (map value c.args.total.now)
    (λ j. ap (λ q. q *ℚ sum_at es j) (c.is_zero.ensures.fact.0 c.if-is_zero.true)
    ∙ zero-mul_ℚ (sum_at es j))
    (added_none value (value c.args.x) es (map value c.args.total.now))

pub number_at-requires : goal.number_at-requires
number_at-requires g c =
    let place = place_in (length c.args.total.now) 0 c.args.spots.now c.loop-spot.spot-index
    c.spot-item.result c.requires c.loop-spot-test.true c.spot-item.is in
    record { low = omega (arith, place.0); high = omega (arith, place.1) }

pub put-requires : goal.put-requires
put-requires g c =
    let place = place_in (length c.args.total.now) 0 c.args.spots.now c.loop-spot.spot-index
    c.spot-item.result c.requires c.loop-spot-test.true c.spot-item.is in
    record { low = omega (arith, place.0); high = omega (arith, place.1) }

pub loop-spot-preserved : goal.loop-spot-preserved
loop-spot-preserved g c =
    let value = g.F.Field.value in
    let x = value c.args.x in
    let spots = c.args.spots.now in
    let i = c.loop-spot.spot-index in
    let place = place_in (length c.args.total.now) 0 spots i c.spot-item.result c.requires
    c.loop-spot-test.true c.spot-item.is in
    subst (λ (ts : List _). AreAdded value x (entries value spots)
    (entries value (drop (i + 1) spots)) (map value c.args.total.now) (map value ts))
    (sym c.put.ensures)
    (added_more value x spots i c.spot-item.result (map value c.args.total.now)
    c.loop-spot.total c.number_at.result c.in-Ok.sum c.loop-spot-test.true c.spot-item.is
    (omega (arith, place.0)) (omega (arith, place.1)) c.number_at.ensures c.in-Ok.ensures.ok
    c.loop-spot.invariant)

pub returns : goal.returns
returns g c = λ yes.
    let value = g.F.Field.value in
    let x = value c.args.x in
    let spots = c.args.spots.now in
    let rest = entries value (drop c.loop-spot.spot-index spots) in
    added_end value x spots rest c.args.total.now (map value c.loop-spot.total)
    (λ j. ap (λ cs. x *ℚ sum_at (entries value cs) j)
    (drop_all c.loop-spot.spot-index spots (omega arith)) ∙ mul-zero_ℚ x)
    c.loop-spot.invariant
