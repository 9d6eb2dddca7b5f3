use Rattle.std.proofs.Common.{◌≡◌, ◌+◌, ◌<◌, ◌∙◌, ◌∷◌, ◌++◌, [], List, ap, arith, length, subst, sym, take, slice_index_or, ℕ}
use Rattle.std.proofs.lemmas.List.{get_or-map, get_or-take, get_or_default, length-map, take_all, take_more}
use Rattle.exact_field.specs.Rational.{ℚ, zero_ℚ, neg_ℚ}
use Rattle.polyhedra.specs.Negatives.{negated}
use Rattle.polyhedra.specs.Sparse.{Entry}
use Rattle.lin_rows.specs.Lines.{Rises, entries, sum_at}
use Rattle.lin_rows.specs.declared.spots.Spot.{Spot}
use Rattle.lp_form.specs.Shapes.{are_places}
use Rattle.lp_form.proofs.Figures.{places_rise}
use Rattle.program_columns.specs.Entries.{across, negatives}
use Rattle.program_columns.proofs.Entered.{appended_more, appended_same, front_kept, rises-negatives, sum_at-negatives}
use Rattle.program_columns.proofs.Listed.{passes_at}
use Rattle.program_columns.proofs.written.push_negatives.Goals as goal

pub loop-i-preserved : goal.loop-i-preserved
loop-i-preserved g c =
    let value = g.F.Field.value in
    let all = c.args.list.now in
    let i = c.loop-i.i in
    let kept = c.loop-i.invariant in
    let inside : i < length all = omega (arith, c.len-i-end.ensures.value) in
    let res = c.index-as_slice-i.result in
    let spots : List (Spot _) = slice_index_or all i [] in
    let own = entries value spots in
    let read : c.as_slice-in-loop-i.result.now ≡ spots =
    c.as_slice-in-loop-i.ensures.items ∙ c.index-as_slice-i.is
    ∙ ap (λ l. slice_index_or l i res) c.as_slice.ensures.items
    ∙ sym (get_or-take (length all) c.loop-i.list i res inside)
    ∙ ap (λ l. slice_index_or l i res) kept.first ∙ get_or_default all i res [] inside in
    let is : entries value c.in_ok-spots.spots ≡ negatives own =
    c.in_ok-spots.ensures ∙ ap (λ cs. negatives (entries value cs)) read in
    let row = λ (k : ℕ). negated (across value k all) in
    let number = λ (k : ℕ). neg_ℚ (sum_at own k) in
    record {
      first = front_kept c.loop-i.list c.push.new.self all c.in_ok-spots.spots
          c.in_ok-push.ensures.ok kept.first;
      appended = λ n.
          appended_more value n (λ k. take i (row k)) (λ k. take (i + 1) (row k)) number all
          c.loop-i.list c.push.new.self c.in_ok-spots.spots c.in_ok-push.ensures.ok
          (λ k. ap (λ es. sum_at es k) is ∙ sum_at-negatives own k)
          (λ ok. subst (λ (es : List Entry). Rises n 0 es) (sym is)
          (rises-negatives n 0 own
          (places_rise value n 0 spots (passes_at (are_places n 0) all i [] ok inside))))
          (λ k.
          take_more (row k) i zero_ℚ
          (omega (
            arith,
            inside,
            length-map (across value k all) neg_ℚ,
            length-map all (λ cs. sum_at (entries value cs) k),
          ))
          ∙ ap (λ q. take i (row k) ++ q ∷ [])
          (get_or-map neg_ℚ (across value k all) i zero_ℚ zero_ℚ
          (omega (arith, inside, length-map all (λ cs. sum_at (entries value cs) k)))
          ∙ ap neg_ℚ (get_or-map (λ cs. sum_at (entries value cs) k) all i [] zero_ℚ inside)))
          (kept.appended n);
    }

pub returns : goal.returns
returns g c = λ n.
    let value = g.F.Field.value in
    let all = c.args.list.now in
    let i = c.loop-i.i in
    appended_same value n (λ k. take i (negated (across value k all)))
    (λ k. negated (across value k all)) all c.loop-i.list
    (λ k. sym (take_all i (negated (across value k all))
    (omega (
      arith,
      c.len-i-end.ensures.value,
      length-map (across value k all) neg_ℚ,
      length-map all (λ cs. sum_at (entries value cs) k),
    ))))
    (c.loop-i.invariant.appended n)
