use Rattle.std.proofs.Common.{◌≡◌, List, ◌++◌, map, true, sym, ap, ◌∙◌, subst, arith}
use Rattle.lin_rows.specs.Lines.{entries, sum_at}
use Rattle.lin_rows.specs.declared.spots.Spot.{Spot}
use Rattle.lp_form.specs.Shapes.{are_places}
use Rattle.lp_form.proofs.Figures.{places_rise}
use Rattle.std.proofs.lemmas.List.{take_all}
use Rattle.lp_form.proofs.Steps.{taken_more, value_pushed, each_passes}
use Rattle.lin_rows.specs.Lines.{Rises}
use Rattle.lp_form.proofs.pieces.push_sides_at.Goals as goal

pub loop-side-preserved : goal.loop-side-preserved
loop-side-preserved g c =
    let value = g.F.Field.value in
    let sides = c.args.sides.now in
    λ n h.
    let item = c.side-item.result in
    let places : are_places n 0 item.g ≡ true = each_passes (λ s. are_places n 0 s.g) sides c.loop-side.side-index item h c.loop-side-test.true c.side-item.is in
    let own = c.entry_at.ensures n (subst (λ (spots : List (Spot _)). Rises n 0 (entries value spots)) (sym c.as_slice.ensures.items) (places_rise value n 0 item.g places))
    ∙ ap (λ spots. sum_at (entries value spots) c.args.place) c.as_slice.ensures.items in
    taken_more (λ s. sum_at (entries value s.g) c.args.place) (map value c.args.list.now) (map value c.loop-side.list) (map value c.push.new.self) sides c.loop-side.side-index item c.loop-side-test.true
    c.side-item.is (c.loop-side.invariant n h) (value_pushed value c.loop-side.list c.push.new.self c.entry_at.result _ c.in_ok-push.ensures.ok own)

pub returns : goal.returns
returns g c =
    let value = g.F.Field.value in
    let sides = c.args.sides.now in
    λ n h. c.loop-side.invariant n h ∙ ap (λ l. map value c.args.list.now ++ map (λ s. sum_at (entries value s.g) c.args.place) l) (take_all c.loop-side.side-index sides (omega arith))
