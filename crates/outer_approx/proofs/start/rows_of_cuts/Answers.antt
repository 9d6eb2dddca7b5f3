use Rattle.std.proofs.Common.{◌≡◌, suc, ◌+◌, List, [], ◌∷◌, ◌++◌, length, map, take, sym, ap, ◌∙◌, subst, arith}
use Rattle.std.proofs.lemmas.List.{length-map, map-append, take_more}
use Rattle.exact_field.specs.Rational.{ℚ}
use Rattle.lineality.specs.Without.{open_count}
use Rattle.lp_form.specs.declared.shown.Cut.{Cut}
use Rattle.outer_approx.specs.Cuts.{said_by}
use Rattle.outer_approx.proofs.RowsOfCuts.{length-row, rows_begin, rows_more}
use Rattle.outer_approx.proofs.start.rows_of_cuts.Goals as goal

pub loop-cut-init : goal.loop-cut-init
loop-cut-init g c =
    let value = g.F.Field.value in
    let places = c.args.places.now in
    let count = c.open_places-count.result in
    let one_more : count + 1 ≡ suc (open_count places) = let e = c.open_places-count.ensures in omega (arith, e) in
    record {
      width = c.push_row.ensures.width ∙ c.new-rows.ensures.width ∙ one_more;
      rows = rows_begin value places count c.as_slice.result.now c.new-rows.result.list c.push_row.new.self.list c.open_places-count.ensures
          (ap (map value) c.as_slice.ensures.items ∙ c.in_ok-level.ensures) c.new-rows.ensures.rows c.in_ok-push_row.ensures.ok;
    }

pub push_row-requires-in-loop-cut : goal.push_row-requires-in-loop-cut
push_row-requires-in-loop-cut g c =
    let F = g.row.F.Denot in
    let value = g.F.Field.value in
    let places = c.args.places.now in
    let cut = c.cut-item.result in
    let row = c.in_ok-row.row in
    let wide : length cut.w ≡ length places =
    subst (λ (x : Cut F). length x.w ≡ length places) (sym c.cut-item.is) (c.requires.wide c.loop-cut.cut-index cut c.loop-cut-test.true) in
    ap (λ (xs : List F). length xs) c.as_slice-in-loop-cut.ensures.items ∙ sym (length-map row value) ∙ ap (λ (v : List ℚ). length v) c.in_ok-row.ensures
    ∙ length-row places (said_by value cut) (length-map cut.w value ∙ wide) ∙ sym c.loop-cut.invariant.width

pub loop-cut-preserved : goal.loop-cut-preserved
loop-cut-preserved g c =
    let F = g.row.F.Denot in
    let value = g.F.Field.value in
    let places = c.args.places.now in
    let cuts = c.args.cuts.now in
    let cut = c.cut-item.result in
    let i = c.loop-cut.cut-index in
    let longer : map (said_by value) (take (i + 1) cuts) ≡ map (said_by value) (take i cuts) ++ said_by value cut ∷ [] =
    ap (map (said_by value)) (take_more cuts i cut c.loop-cut-test.true ∙ ap (λ (x : Cut F). take i cuts ++ x ∷ []) (sym c.cut-item.is))
    ∙ map-append (said_by value) (take i cuts) (cut ∷ []) in
    record {
      width = c.push_row-in-loop-cut.ensures.width ∙ c.loop-cut.invariant.width;
      rows = rows_more value places (map (said_by value) (take i cuts)) (map (said_by value) (take (i + 1) cuts)) (said_by value cut) c.loop-cut.rows.list
          c.push_row-in-loop-cut.new.self.list c.as_slice-in-loop-cut.result.now longer (ap (map value) c.as_slice-in-loop-cut.ensures.items ∙ c.in_ok-row.ensures)
          c.in_ok-push_row-2.ensures.ok c.loop-cut.invariant.rows;
    }
