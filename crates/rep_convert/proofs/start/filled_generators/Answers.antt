use Rattle.std.proofs.Common.{◌<◌, List, ℕ, length, slice_index_or, subst, ap, ◌∙◌}
use Rattle.polyhedra.specs.LiveList.{numbers}
use Rattle.rep_conv.proofs.Ends.{same_place}
use Rattle.lineality.specs.Without.{with_zeros}
use Rattle.rep_convert.proofs.Lists.{gens_more, own_values}
use Rattle.rep_convert.proofs.start.filled_generators.Goals as goal

pub loop-number-preserved : goal.loop-number-preserved
loop-number-preserved c =
    let live = c.args.dd.now.list.live in
    let named = c.live-numbers.ensures.live in
    let inside : c.loop-number.number-index < length (numbers live) = subst (λ (ks : List ℕ). c.loop-number.number-index < length ks) named c.loop-number-test.true in
    gens_more c.args.places.now live c.loop-number.number-index (slice_index_or c.live-numbers.result.now c.loop-number.number-index 0) c.loop-number.gens c.push.new.self c.in_ok-full_vector.field-0 c.generator.result.now
    inside (ap (λ (ks : List ℕ). slice_index_or ks c.loop-number.number-index 0) named ∙ same_place (numbers live) c.loop-number.number-index 0 (slice_index_or c.live-numbers.result.now c.loop-number.number-index 0) inside)
    c.in_ok-push.ensures.ok
    (own_values (with_zeros c.args.places.now) c.generator.result.now c.in_ok-full_vector.field-0 c.in_ok-full_vector.ensures)
    c.generator.ensures.only c.loop-number.invariant
