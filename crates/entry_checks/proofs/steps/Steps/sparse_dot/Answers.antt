use Rattle.std.proofs.Common.{rules, sym, subst, ap, arith, ◌∙◌, List, length, ◌<◌, ◌≡◌}
use Rattle.frac128.specs.Held.{is_held}
use Rattle.log_rules.specs.Events.{Event, first_failure}
use Rattle.log_rules.specs.Runs.{Stops, steps}
use Rattle.std.proofs.lemmas.List.{length-map}
use Rattle.entry_checks.proofs.Products.{of_spots, summed-start, summed-more, summed-room, summed-stop, summed-end, place-within, spot-at, dot_steps-spots, dot-spots}
use Rattle.entry_checks.proofs.steps.Steps.sparse_dot.Goals as goal

pub loop-spot-init : goal.loop-spot-init
loop-spot-init c = summed-start (of_spots c.args.spots.now c.args.w.now) c.args.self.now.taken c.from-total.result c.from-total.ensures

pub overflow_sub-entry : goal.overflow_sub-entry
overflow_sub-entry c = (place-within (length c.args.w.now) c.args.spots.now c.loop-spot.spot-index c.spot-item.result c.requires.vector (omega arith) c.spot-item.is).0

pub bounds-w-spot : goal.bounds-w-spot
bounds-w-spot c =
    let place = place-within (length c.args.w.now) c.args.spots.now c.loop-spot.spot-index c.spot-item.result c.requires.vector (omega arith) c.spot-item.is in
    omega (arith, place)

pub plus_product-requires : goal.plus_product-requires
plus_product-requires c =
    let place = place-within (length c.args.w.now) c.args.spots.now c.loop-spot.spot-index c.spot-item.result c.requires.vector (omega arith) c.spot-item.is in
    let within : c.loop-spot.spot-index < length (of_spots c.args.spots.now c.args.w.now) = simp length-map (omega arith) in
    let pair = spot-at c.args.w.now c.args.spots.now c.loop-spot.spot-index c.spot-item.result c.index-w-spot.result (omega arith) c.spot-item.is place.0 place.1 c.index-w-spot.is in
    let most = summed-room (of_spots c.args.spots.now c.args.w.now) c.args.self.now.taken c.loop-spot.spot-index c.loop-spot.self.taken c.loop-spot.total c.spot-item.result.value c.index-w-spot.result within pair c.loop-spot.invariant in
    let same = ap steps (dot_steps-spots c.args.spots.now c.args.w.now c.requires.vector) in
    let room = c.requires.room in
    omega (arith, most, room, same)

pub returns-in_err-total : goal.returns-in_err-total
returns-in_err-total c =
    let place = place-within (length c.args.w.now) c.args.spots.now c.loop-spot.spot-index c.spot-item.result c.requires.vector (omega arith) c.spot-item.is in
    let within : c.loop-spot.spot-index < length (of_spots c.args.spots.now c.args.w.now) = simp length-map (omega arith) in
    let pair = spot-at c.args.w.now c.args.spots.now c.loop-spot.spot-index c.spot-item.result c.index-w-spot.result (omega arith) c.spot-item.is place.0 place.1 c.index-w-spot.is in
    let few = subst (λ (es : List Event). Stops is_held es c.args.self.now.taken c.in_err-total.field-0.0) (sym (dot_steps-spots c.args.spots.now c.args.w.now c.requires.vector))
    (summed-stop (of_spots c.args.spots.now c.args.w.now) c.args.self.now.taken c.loop-spot.spot-index c.loop-spot.self.taken c.loop-spot.total c.spot-item.result.value c.index-w-spot.result within pair c.loop-spot.invariant c.in_err-total.field-0.0 c.in_err-total.ensures) in
    search (few, rules)

pub loop-spot-preserved : goal.loop-spot-preserved
loop-spot-preserved c =
    let place = place-within (length c.args.w.now) c.args.spots.now c.loop-spot.spot-index c.spot-item.result c.requires.vector (omega arith) c.spot-item.is in
    let within : c.loop-spot.spot-index < length (of_spots c.args.spots.now c.args.w.now) = simp length-map (omega arith) in
    let pair = spot-at c.args.w.now c.args.spots.now c.loop-spot.spot-index c.spot-item.result c.index-w-spot.result (omega arith) c.spot-item.is place.0 place.1 c.index-w-spot.is in
    summed-more (of_spots c.args.spots.now c.args.w.now) c.args.self.now.taken c.loop-spot.spot-index c.loop-spot.self.taken c.loop-spot.total c.spot-item.result.value c.index-w-spot.result within pair c.loop-spot.invariant
    c.plus_product.new.self.taken c.in_ok-total.total c.in_ok-total.ensures

pub returns : goal.returns
returns c =
    let over : c.loop-spot.spot-index ≡ length (of_spots c.args.spots.now c.args.w.now) = simp length-map (omega arith) in
    let same = dot_steps-spots c.args.spots.now c.args.w.now c.requires.vector in
    let done = summed-end (of_spots c.args.spots.now c.args.w.now) c.args.self.now.taken c.loop-spot.spot-index c.loop-spot.self.taken c.loop-spot.total over c.loop-spot.invariant in
    let count = done.1 in
    let long = ap steps same in
    (ap (first_failure is_held _) same ∙ done.0, omega (arith, count, long), done.2 ∙ dot-spots c.args.spots.now c.args.w.now c.requires.vector)
