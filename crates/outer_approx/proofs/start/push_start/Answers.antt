use Rattle.std.proofs.lemmas.Result.{on_ok_weaker}
use Rattle.std.proofs.Common.{ℕ, ap, suc, sym, ◌∙◌, subst, arith}
use Rattle.polyhedra.specs.LiveList.{vectors}
use Rattle.overflows.proofs.Formed.{naturals_written, vector_written}
use Rattle.outer_approx.specs.First.{AreFirst}
use Rattle.outer_approx.proofs.Fronts.{has_start, start_written}
use Rattle.lineality.proofs.Masks.{open_bound}
use Rattle.outer_approx.proofs.start.push_start.Goals as goal

pub directions_of-requires-clause-few : goal.directions_of-requires-clause-few
directions_of-requires-clause-few g c =
    let bound = open_bound c.args.places.now in
    let few = c.requires.few in
    let count = c.open_places-count.ensures in
    omega (arith, bound, few, count)

pub directions_of-requires-clause-first : goal.directions_of-requires-clause-first
directions_of-requires-clause-first g c = subst (λ (n : ℕ). AreFirst n c.args.dd.now.list) (sym c.open_places-count.ensures) c.requires.first

pub returns-clause-ok : goal.returns-clause-ok
returns-clause-ok g c =
    let ks = c.in_ok-cuts.cuts in
    let point = c.in_ok-point.point in
    let directions = c.in_ok-directions.directions in
    let n = c.open_places-count.result in
    on_ok_weaker c.push.result
    (has_start c.args.places.now n c.open_places-count.ensures (vectors c.args.dd.now.list.live) c.args.trail.now c.push.new.self ks point directions
    (c.requires.first.many ∙ ap suc (sym c.open_places-count.ensures))
    c.in_ok-cuts.ensures c.in_ok-point.ensures c.in_ok-directions.ensures.long c.in_ok-directions.ensures.pieces
    (start_written ks point directions
    (naturals_written ks c.as_slice.result.now c.as_slice.ensures.items c.as_slice.ensures.bound c.naturals_are_written.ensures)
    (vector_written point c.as_slice-2.result.now c.as_slice-2.ensures.items c.as_slice-2.ensures.bound c.fractions_are_written.ensures)
    (vector_written directions c.as_slice-3.result.now c.as_slice-3.ensures.items c.as_slice-3.ensures.bound c.fractions_are_written-2.ensures)))
    c.push.ensures.ok
