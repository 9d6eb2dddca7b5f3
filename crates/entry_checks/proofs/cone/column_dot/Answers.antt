use Rattle.std.proofs.Common.{rules, sym, subst, ap, arith, ◌∙◌, ◌≡◌, ◌+◌, ◌-◌, ◌<◌, ◌≤◌, List, length, slice_index_or}
use Rattle.std.proofs.lemmas.List.{length-map}
use Rattle.frac128.specs.Held.{is_held}
use Rattle.log_rules.specs.Events.{Event, first_failure}
use Rattle.log_rules.specs.Runs.{Stops, steps}
use Rattle.upper_image.specs.Spots.{column}
use Rattle.entry_checks.proofs.Products.{at_spots, summed-start, summed-more, summed-room, summed-stop, summed-end, place-within, at-spot, product_steps-spots, product-spots}
use Rattle.entry_checks.proofs.Columns.{column-at, wide-at, column_vector}
use Rattle.entry_checks.proofs.cone.column_dot.Goals as goal

pub loop-spot-init : goal.loop-spot-init
loop-spot-init c = summed-start (at_spots (column c.args.vectors.now (c.args.place + 1)) c.args.m.now) c.args.counter.now.taken c.from-total.result c.from-total.ensures

pub overflow_sub-spot : goal.overflow_sub-spot
overflow_sub-spot c = (place-within (length c.args.vectors.now) c.args.m.now c.loop-spot.spot-index c.spot-item.result c.requires.vector (omega arith) c.spot-item.is).0

pub bounds-vectors-spot : goal.bounds-vectors-spot
bounds-vectors-spot c =
    let place = place-within (length c.args.vectors.now) c.args.m.now c.loop-spot.spot-index c.spot-item.result c.requires.vector (omega arith) c.spot-item.is in
    omega (arith, place)

pub bounds-as_slice-place : goal.bounds-as_slice-place
bounds-as_slice-place c =
    let place = place-within (length c.args.vectors.now) c.args.m.now c.loop-spot.spot-index c.spot-item.result c.requires.vector (omega arith) c.spot-item.is in
    wide-at c.args.place c.args.vectors.now (c.spot-item.result.at - 1) c.index-vectors-spot.result c.as_slice.result.now c.requires.entries (omega (arith, place)) c.index-vectors-spot.is c.as_slice.ensures.items

pub offset_bounds-as_slice-place : goal.offset_bounds-as_slice-place
offset_bounds-as_slice-place c =
    let place = place-within (length c.args.vectors.now) c.args.m.now c.loop-spot.spot-index c.spot-item.result c.requires.vector (omega arith) c.spot-item.is in
    let wide = wide-at c.args.place c.args.vectors.now (c.spot-item.result.at - 1) c.index-vectors-spot.result c.as_slice.result.now c.requires.entries (omega (arith, place)) c.index-vectors-spot.is c.as_slice.ensures.items in
    let bound = c.as_slice.ensures.bound in
    record { fits = omega (arith, wide, bound) }

pub plus_product-requires : goal.plus_product-requires
plus_product-requires c =
    let place = place-within (length c.args.vectors.now) c.args.m.now c.loop-spot.spot-index c.spot-item.result c.requires.vector (omega arith) c.spot-item.is in
    let within : c.loop-spot.spot-index < length (at_spots (column c.args.vectors.now (c.args.place + 1)) c.args.m.now) = simp length-map (omega arith) in
    let wide : c.spot-item.result.at ≤ length (column c.args.vectors.now (c.args.place + 1)) = simp length-map (omega (arith, place)) in
    let here : c.index-as_slice-place.result ≡ slice_index_or (column c.args.vectors.now (c.args.place + 1)) (c.spot-item.result.at - 1) c.index-as_slice-place.result =
    column-at c.args.vectors.now (c.spot-item.result.at - 1) c.args.place c.index-vectors-spot.result c.as_slice.result.now c.index-as_slice-place.result (omega (arith, place)) c.index-vectors-spot.is c.as_slice.ensures.items (wide-at c.args.place c.args.vectors.now (c.spot-item.result.at - 1) c.index-vectors-spot.result c.as_slice.result.now c.requires.entries (omega (arith, place)) c.index-vectors-spot.is c.as_slice.ensures.items) c.index-as_slice-place.is in
    let pair = at-spot (column c.args.vectors.now (c.args.place + 1)) c.args.m.now c.loop-spot.spot-index c.spot-item.result c.index-as_slice-place.result (omega arith) c.spot-item.is place.0 wide here in
    let most = summed-room (at_spots (column c.args.vectors.now (c.args.place + 1)) c.args.m.now) c.args.counter.now.taken c.loop-spot.spot-index c.loop-spot.counter.taken c.loop-spot.total c.index-as_slice-place.result c.spot-item.result.value within pair c.loop-spot.invariant in
    let same = ap steps (product_steps-spots (column c.args.vectors.now (c.args.place + 1)) c.args.m.now (column_vector c.args.vectors.now (c.args.place + 1) c.args.m.now c.requires.vector)) in
    let room = c.requires.room in
    omega (arith, most, room, same)

pub returns-in_err-total : goal.returns-in_err-total
returns-in_err-total c =
    let place = place-within (length c.args.vectors.now) c.args.m.now c.loop-spot.spot-index c.spot-item.result c.requires.vector (omega arith) c.spot-item.is in
    let within : c.loop-spot.spot-index < length (at_spots (column c.args.vectors.now (c.args.place + 1)) c.args.m.now) = simp length-map (omega arith) in
    let wide : c.spot-item.result.at ≤ length (column c.args.vectors.now (c.args.place + 1)) = simp length-map (omega (arith, place)) in
    let here : c.index-as_slice-place.result ≡ slice_index_or (column c.args.vectors.now (c.args.place + 1)) (c.spot-item.result.at - 1) c.index-as_slice-place.result =
    column-at c.args.vectors.now (c.spot-item.result.at - 1) c.args.place c.index-vectors-spot.result c.as_slice.result.now c.index-as_slice-place.result (omega (arith, place)) c.index-vectors-spot.is c.as_slice.ensures.items (wide-at c.args.place c.args.vectors.now (c.spot-item.result.at - 1) c.index-vectors-spot.result c.as_slice.result.now c.requires.entries (omega (arith, place)) c.index-vectors-spot.is c.as_slice.ensures.items) c.index-as_slice-place.is in
    let pair = at-spot (column c.args.vectors.now (c.args.place + 1)) c.args.m.now c.loop-spot.spot-index c.spot-item.result c.index-as_slice-place.result (omega arith) c.spot-item.is place.0 wide here in
    let few = subst (λ (es : List Event). Stops is_held es c.args.counter.now.taken c.in_err-total.field-0.0) (sym (product_steps-spots (column c.args.vectors.now (c.args.place + 1)) c.args.m.now (column_vector c.args.vectors.now (c.args.place + 1) c.args.m.now c.requires.vector))) (summed-stop (at_spots (column c.args.vectors.now (c.args.place + 1)) c.args.m.now) c.args.counter.now.taken c.loop-spot.spot-index c.loop-spot.counter.taken c.loop-spot.total c.index-as_slice-place.result c.spot-item.result.value within pair c.loop-spot.invariant c.in_err-total.field-0.0 c.in_err-total.ensures) in
    search (few, rules)

pub loop-spot-preserved : goal.loop-spot-preserved
loop-spot-preserved c =
    let place = place-within (length c.args.vectors.now) c.args.m.now c.loop-spot.spot-index c.spot-item.result c.requires.vector (omega arith) c.spot-item.is in
    let within : c.loop-spot.spot-index < length (at_spots (column c.args.vectors.now (c.args.place + 1)) c.args.m.now) = simp length-map (omega arith) in
    let wide : c.spot-item.result.at ≤ length (column c.args.vectors.now (c.args.place + 1)) = simp length-map (omega (arith, place)) in
    let here : c.index-as_slice-place.result ≡ slice_index_or (column c.args.vectors.now (c.args.place + 1)) (c.spot-item.result.at - 1) c.index-as_slice-place.result =
    column-at c.args.vectors.now (c.spot-item.result.at - 1) c.args.place c.index-vectors-spot.result c.as_slice.result.now c.index-as_slice-place.result (omega (arith, place)) c.index-vectors-spot.is c.as_slice.ensures.items (wide-at c.args.place c.args.vectors.now (c.spot-item.result.at - 1) c.index-vectors-spot.result c.as_slice.result.now c.requires.entries (omega (arith, place)) c.index-vectors-spot.is c.as_slice.ensures.items) c.index-as_slice-place.is in
    let pair = at-spot (column c.args.vectors.now (c.args.place + 1)) c.args.m.now c.loop-spot.spot-index c.spot-item.result c.index-as_slice-place.result (omega arith) c.spot-item.is place.0 wide here in
    summed-more (at_spots (column c.args.vectors.now (c.args.place + 1)) c.args.m.now) c.args.counter.now.taken c.loop-spot.spot-index c.loop-spot.counter.taken c.loop-spot.total c.index-as_slice-place.result c.spot-item.result.value within pair c.loop-spot.invariant c.plus_product.new.self.taken c.in_ok-total.total c.in_ok-total.ensures

pub returns : goal.returns
returns c =
    let over : c.loop-spot.spot-index ≡ length (at_spots (column c.args.vectors.now (c.args.place + 1)) c.args.m.now) = simp length-map (omega arith) in
    let same = product_steps-spots (column c.args.vectors.now (c.args.place + 1)) c.args.m.now (column_vector c.args.vectors.now (c.args.place + 1) c.args.m.now c.requires.vector) in
    let done = summed-end (at_spots (column c.args.vectors.now (c.args.place + 1)) c.args.m.now) c.args.counter.now.taken c.loop-spot.spot-index c.loop-spot.counter.taken c.loop-spot.total over c.loop-spot.invariant in
    let count = done.1 in
    let long = ap steps same in
    (ap (first_failure is_held _) same ∙ done.0, omega (arith, count, long), done.2 ∙ product-spots (column c.args.vectors.now (c.args.place + 1)) c.args.m.now (column_vector c.args.vectors.now (c.args.place + 1) c.args.m.now c.requires.vector))
