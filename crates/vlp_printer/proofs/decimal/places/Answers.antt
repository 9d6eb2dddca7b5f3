use Rattle.std.proofs.Common.{arith, ap, sym, ◌∙◌, ◌≡◌, ◌^◌, to_z, of_z}
use Rattle.std.specs.Int.{w128}
use Rattle.std.proofs.lemmas.Int.{ints}
use Rattle.std.specs.Prelude.{unsigned_abs}
use Rattle.vlp_reader.proofs.Powers.{power_small}
use Rattle.vlp_printer.proofs.PlacesNeeded.{places_found, places_later, places_over, power_more, divides, divides_not}
use Rattle.vlp_printer.proofs.decimal.places.Goals as goal

pub returns-then-power-den-eq0-clause-value : goal.returns-then-power-den-eq0-clause-value
returns-then-power-den-eq0-clause-value c =
    let k = c.loop-places.places in
    let fits = c.den.type_inv in
    let signed : to_z w128 (of_z w128 c.den.result) ≡ c.den.result = omega (arith, ints) in
    let den = c.unsigned_abs-den.ensures.value ∙ ap unsigned_abs (signed ∙ c.den.ensures.part) in
    sym (c.loop-places.invariant.rest ∙ places_found c.args.number.den k c.loop-places-test.true
    (divides c.loop-places.power (10 ^ k) c.unsigned_abs-den.result c.args.number.den c.loop-places.invariant.power den c.if-power-den-eq0.true))

pub overflow_mul-power : goal.overflow_mul-power
overflow_mul-power c =
    let below = c.loop-places-test.true in
    let small = power_small c.loop-places.places (omega arith) in
    let value = c.loop-places.invariant.power in
    omega arith

pub loop-places-preserved : goal.loop-places-preserved
loop-places-preserved c =
    let k = c.loop-places.places in
    let fits = c.den.type_inv in
    let signed : to_z w128 (of_z w128 c.den.result) ≡ c.den.result = omega (arith, ints) in
    let den = c.unsigned_abs-den.ensures.value ∙ ap unsigned_abs (signed ∙ c.den.ensures.part) in
    let below = c.loop-places-test.true in
    record {
      power = power_more c.loop-places.power k c.loop-places.invariant.power;
      rest = c.loop-places.invariant.rest ∙ places_later c.args.number.den k below
          (divides_not c.loop-places.power (10 ^ k) c.unsigned_abs-den.result c.args.number.den c.loop-places.invariant.power den c.if-power-den-eq0.false);
      end = omega arith;
    }

pub returns-clause-value : goal.returns-clause-value
returns-clause-value c = sym (c.loop-places.invariant.rest ∙ places_over c.args.number.den c.loop-places.places c.loop-places.invariant.end c.loop-places-test.false)
