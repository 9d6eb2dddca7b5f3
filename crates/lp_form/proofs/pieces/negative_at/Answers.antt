use Rattle.std.proofs.Common.{◌≡◌, List, [], map, true, sym, ap, ◌∙◌, subst, arith}
use Rattle.exact_field.specs.Rational.{neg_ℚ}
use Rattle.lin_rows.specs.Lines.{entries, sum_at}
use Rattle.lin_rows.specs.declared.spots.Spot.{Spot}
use Rattle.lp_form.specs.Shapes.{are_places}
use Rattle.lp_form.proofs.Figures.{places_rise}
use Rattle.std.proofs.lemmas.List.{take_all}
use Rattle.lp_form.proofs.Steps.{taken_more, value_pushed, each_passes}
use Rattle.lin_rows.specs.Lines.{Rises}
use Rattle.lp_form.proofs.pieces.negative_at.Goals as goal

pub loop-row-preserved : goal.loop-row-preserved
loop-row-preserved g c =
    let value = g.F.Field.value in
    let rows = c.args.rows.now in
    λ n h.
    let item = c.row-item.result in
    let places : are_places n 0 item ≡ true = each_passes (are_places n 0) rows c.loop-row.row-index item h c.loop-row-test.true c.row-item.is in
    let own = c.entry_at-value.ensures n (subst (λ (spots : List (Spot _)). Rises n 0 (entries value spots)) (sym c.as_slice.ensures.items) (places_rise value n 0 item places))
    ∙ ap (λ spots. sum_at (entries value spots) c.args.place) c.as_slice.ensures.items in
    taken_more (λ r. neg_ℚ (sum_at (entries value r) c.args.place)) [] (map value c.loop-row.column) (map value c.push.new.self) rows c.loop-row.row-index item c.loop-row-test.true
    c.row-item.is (c.loop-row.invariant n h) (value_pushed value c.loop-row.column c.push.new.self c.neg.result _ c.in_ok-push.ensures.ok (c.neg.ensures ∙ ap neg_ℚ own))

pub returns : goal.returns
returns g c =
    let value = g.F.Field.value in
    let rows = c.args.rows.now in
    λ n h. c.loop-row.invariant n h ∙ ap (map (λ r. neg_ℚ (sum_at (entries value r) c.args.place))) (take_all c.loop-row.row-index rows (omega arith))
