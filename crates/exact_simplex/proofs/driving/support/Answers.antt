use Rattle.std.proofs.Common.{sym, refl, subst, arith, length, ◌<◌, ◌≤◌, ◌≡◌, ◌≢◌, nat_eq}
use Rattle.std.proofs.lemmas.List.{take_all}
use Rattle.exact_field.specs.Rational.{ℚ, zero_ℚ}
use Rattle.lin_rows.specs.Lines.{entries, sum_at}
use Rattle.lin_rows.proofs.Merging.{not_same, place_above}
use Rattle.lin_rows.proofs.SpotLists.{length-entries, entry_read}
use Rattle.lin_rows.proofs.Places.{found_at}
use Rattle.exact_simplex.proofs.Driven.{scanned_zero, shown_zero, shown_nowhere, not_zero, is_zero_value}
use Rattle.exact_simplex.proofs.driving.support.Goals as goal
use Rattle.exact_simplex.proofs.driving.support.Goals.{else-spot-count-via-then-spot-count+else-not-is_zero, else-spot-count-via-else-spot-count}

pub loop-spot-init : goal.loop-spot-init
loop-spot-init g c = λ j l. refl

pub returns-then-not-is_zero : goal.returns-then-not-is_zero
returns-then-not-is_zero g c =
    let value = g.F.Field.value in
    let row = c.args.row.now in
    let i = c.loop-spot.spot-index in
    let spot = c.spot-item.result in
    let inside : i < length row = omega arith in
    λ n rises.
    let e = entry_read value row i spot inside c.spot-item.is in
    let low : 1 ≤ spot.at = subst (λ p. 1 ≤ p.place) (sym e) (place_above n 0 (entries value row) i (record { place = spot.at; value = value spot.value }) rises (omega (arith, inside, length-entries value row))) in
    (low, c.if-spot-count.true, subst (λ (q : ℚ). q ≢ zero_ℚ) (found_at value n row rises i spot inside c.spot-item.is) (not_zero c.is_zero.result (value spot.value) c.is_zero.ensures.fact c.if-not-is_zero.true))

pub loop-spot-preserved : goal.loop-spot-preserved
loop-spot-preserved g c =
    let value = g.F.Field.value in
    let row = c.args.row.now in
    let i = c.loop-spot.spot-index in
    let spot = c.spot-item.result in
    let inside : i < length row = omega arith in
    λ j l.
    elim c.else-spot-count.branch [
      | else-spot-count-via-then-spot-count+else-not-is_zero w ↦
          scanned_zero value row i spot j inside c.spot-item.is (c.loop-spot.invariant j l)
          (shown_zero (nat_eq spot.at j) (value spot.value) (is_zero_value w.is_zero.result (value spot.value) w.is_zero.ensures.fact w.if-not-is_zero.false))
      | else-spot-count-via-else-spot-count w ↦
          scanned_zero value row i spot j inside c.spot-item.is (c.loop-spot.invariant j l)
          (shown_nowhere (nat_eq spot.at j) (value spot.value) (not_same spot.at j (λ e. omega (arith, e, l, w.if-spot-count.false))))
    ]

pub returns : goal.returns
returns g c =
    let value = g.F.Field.value in
    let row = c.args.row.now in
    λ n rises j low high.
    subst (λ xs. sum_at (entries value xs) j ≡ zero_ℚ) (take_all c.loop-spot.spot-index row (omega arith)) (c.loop-spot.invariant j high)
