use Rattle.std.proofs.Common.{rules, sym, ap, ap₂, arith, ◌∙◌, ◌≡◌, ℕ, List, [], ◌∷◌, ◌++◌, length, map, zip}
use Rattle.std.proofs.lemmas.List.{length-map}
use Rattle.exact_field.specs.Rational.{ℚ, ◌-ℚ◌}
use Rattle.exact_field.specs.Vector.{dot}
use Rattle.upper_image.specs.Spots.{dense}
use Rattle.entry_checks.specs.Parts.{difference_events}
use Rattle.entry_checks.proofs.Going.{Passed, Stopped, at-room, at-stop, at-more, at-end}
use Rattle.vlp_matrices.proofs.Lists.{item-as}
use Rattle.entry_checks.proofs.Going.{stopped-after}
use Rattle.vlp_matrices.proofs.Lists.{map-at, zip-at, length-zip}
use Rattle.vlp_matrices.proofs.Lists.{map-take_more}
use Rattle.std.proofs.lemmas.List.{take_all}
use Rattle.std.proofs.Common.{take}
use Rattle.entry_checks.proofs.image.differences.Goals as goal

pub difference-requires-clause-room : goal.difference-requires-clause-room
difference-requires-clause-room c =
    let long = length-map c.args.rows.now (dense (length c.args.x.now)) in
    let wide : length (map (dense (length c.args.x.now)) c.args.rows.now) ≡ length c.args.y.now = omega (arith, long) in
    let pairs = length-zip (map (dense (length c.args.x.now)) c.args.rows.now) c.args.y.now wide in
    let most = at-room (λ p. difference_events p.0 c.args.x.now p.1) (zip (map (dense (length c.args.x.now)) c.args.rows.now) c.args.y.now) c.args.counter.now.taken c.loop-i.i c.loop-i.counter.taken (dense (length c.args.x.now) c.as_slice.result.now, c.index-y-i.result) (omega (arith, pairs, long)) (zip-at c.loop-i.i (map (dense (length c.args.x.now)) c.args.rows.now) c.args.y.now (dense (length c.args.x.now) c.as_slice.result.now) c.index-y-i.result (omega (arith, long)) wide (map-at (dense (length c.args.x.now)) c.args.rows.now c.loop-i.i c.as_slice.result.now (omega arith) (item-as c.args.rows.now c.loop-i.i c.index-rows-i.result c.as_slice.result.now c.as_slice.ensures.items c.index-rows-i.is)) c.index-y-i.is) c.loop-i.invariant.here in
    let room = c.requires.room in
    omega (arith, most, room)

pub returns-in_err-value : goal.returns-in_err-value
returns-in_err-value c =
    let long = length-map c.args.rows.now (dense (length c.args.x.now)) in
    let wide : length (map (dense (length c.args.x.now)) c.args.rows.now) ≡ length c.args.y.now = omega (arith, long) in
    let pairs = length-zip (map (dense (length c.args.x.now)) c.args.rows.now) c.args.y.now wide in
    let stopped = at-stop (λ p. difference_events p.0 c.args.x.now p.1) (zip (map (dense (length c.args.x.now)) c.args.rows.now) c.args.y.now) c.args.counter.now.taken c.loop-i.i c.loop-i.counter.taken (dense (length c.args.x.now) c.as_slice.result.now, c.index-y-i.result) c.in_err-value.field-0.0 (omega (arith, pairs, long)) (zip-at c.loop-i.i (map (dense (length c.args.x.now)) c.args.rows.now) c.args.y.now (dense (length c.args.x.now) c.as_slice.result.now) c.index-y-i.result (omega (arith, long)) wide (map-at (dense (length c.args.x.now)) c.args.rows.now c.loop-i.i c.as_slice.result.now (omega arith) (item-as c.args.rows.now c.loop-i.i c.index-rows-i.result c.as_slice.result.now c.as_slice.ensures.items c.index-rows-i.is)) c.index-y-i.is) c.loop-i.invariant.here c.in_err-value.ensures in
    search (stopped, rules)

pub returns-in_err-append : goal.returns-in_err-append
returns-in_err-append c =
    let long = length-map c.args.rows.now (dense (length c.args.x.now)) in
    let wide : length (map (dense (length c.args.x.now)) c.args.rows.now) ≡ length c.args.y.now = omega (arith, long) in
    let pairs = length-zip (map (dense (length c.args.x.now)) c.args.rows.now) c.args.y.now wide in
    let came : Passed (difference_events (dense (length c.args.x.now) c.as_slice.result.now) c.args.x.now c.index-y-i.result) c.loop-i.counter.taken c.difference.new.counter.taken = record { none = c.in_ok-value.ensures.0; count = c.in_ok-value.ensures.1 } in
    let here : Stopped [] c.difference.new.counter.taken c.in_err-append.field-0.0 = record { at = c.in_err-append.ensures c.difference.new.counter.taken } in
    let stopped = at-stop (λ p. difference_events p.0 c.args.x.now p.1) (zip (map (dense (length c.args.x.now)) c.args.rows.now) c.args.y.now) c.args.counter.now.taken c.loop-i.i c.loop-i.counter.taken (dense (length c.args.x.now) c.as_slice.result.now, c.index-y-i.result) c.in_err-append.field-0.0 (omega (arith, pairs, long)) (zip-at c.loop-i.i (map (dense (length c.args.x.now)) c.args.rows.now) c.args.y.now (dense (length c.args.x.now) c.as_slice.result.now) c.index-y-i.result (omega (arith, long)) wide (map-at (dense (length c.args.x.now)) c.args.rows.now c.loop-i.i c.as_slice.result.now (omega arith) (item-as c.args.rows.now c.loop-i.i c.index-rows-i.result c.as_slice.result.now c.as_slice.ensures.items c.index-rows-i.is)) c.index-y-i.is) c.loop-i.invariant.here (stopped-after came here).at in
    search (stopped, rules)

pub loop-i-preserved : goal.loop-i-preserved
loop-i-preserved c =
    let long = length-map c.args.rows.now (dense (length c.args.x.now)) in
    let wide : length (map (dense (length c.args.x.now)) c.args.rows.now) ≡ length c.args.y.now = omega (arith, long) in
    let pairs = length-zip (map (dense (length c.args.x.now)) c.args.rows.now) c.args.y.now wide in
    record {
      here = at-more (λ p. difference_events p.0 c.args.x.now p.1) (zip (map (dense (length c.args.x.now)) c.args.rows.now) c.args.y.now) c.args.counter.now.taken c.loop-i.i c.loop-i.counter.taken c.difference.new.counter.taken (dense (length c.args.x.now) c.as_slice.result.now, c.index-y-i.result) (omega (arith, pairs, long)) (zip-at c.loop-i.i (map (dense (length c.args.x.now)) c.args.rows.now) c.args.y.now (dense (length c.args.x.now) c.as_slice.result.now) c.index-y-i.result (omega (arith, long)) wide (map-at (dense (length c.args.x.now)) c.args.rows.now c.loop-i.i c.as_slice.result.now (omega arith) (item-as c.args.rows.now c.loop-i.i c.index-rows-i.result c.as_slice.result.now c.as_slice.ensures.items c.index-rows-i.is)) c.index-y-i.is) c.loop-i.invariant.here
          record { none = c.in_ok-value.ensures.0; count = c.in_ok-value.ensures.1 };
      made = (c.in_ok-append.ensures 0).2 ∙ ap₂ (λ (vs : List ℚ) (z : ℚ). vs ++ z ∷ []) c.loop-i.invariant.made c.in_ok-value.ensures.2
          ∙ sym (map-take_more (λ p. p.1 -ℚ dot p.0 c.args.x.now) (zip (map (dense (length c.args.x.now)) c.args.rows.now) c.args.y.now) c.loop-i.i (dense (length c.args.x.now) c.as_slice.result.now, c.index-y-i.result) (omega (arith, pairs, long)) (zip-at c.loop-i.i (map (dense (length c.args.x.now)) c.args.rows.now) c.args.y.now (dense (length c.args.x.now) c.as_slice.result.now) c.index-y-i.result (omega (arith, long)) wide (map-at (dense (length c.args.x.now)) c.args.rows.now c.loop-i.i c.as_slice.result.now (omega arith) (item-as c.args.rows.now c.loop-i.i c.index-rows-i.result c.as_slice.result.now c.as_slice.ensures.items c.index-rows-i.is)) c.index-y-i.is));
    }

pub returns : goal.returns
returns c =
    let long = length-map c.args.rows.now (dense (length c.args.x.now)) in
    let wide : length (map (dense (length c.args.x.now)) c.args.rows.now) ≡ length c.args.y.now = omega (arith, long) in
    let pairs = length-zip (map (dense (length c.args.x.now)) c.args.rows.now) c.args.y.now wide in
    let over : c.loop-i.i ≡ length (zip (map (dense (length c.args.x.now)) c.args.rows.now) c.args.y.now) = omega (arith, pairs, long) in
    let done = at-end (λ p. difference_events p.0 c.args.x.now p.1) (zip (map (dense (length c.args.x.now)) c.args.rows.now) c.args.y.now) c.args.counter.now.taken c.loop-i.i c.loop-i.counter.taken over c.loop-i.invariant.here in
    (done.none, done.count, c.loop-i.invariant.made ∙ ap (λ (k : ℕ). map (λ p. p.1 -ℚ dot p.0 c.args.x.now) (take k (zip (map (dense (length c.args.x.now)) c.args.rows.now) c.args.y.now))) over ∙ ap (map (λ p. p.1 -ℚ dot p.0 c.args.x.now)) (take_all (length (zip (map (dense (length c.args.x.now)) c.args.rows.now) c.args.y.now)) (zip (map (dense (length c.args.x.now)) c.args.rows.now) c.args.y.now) (omega arith)))
