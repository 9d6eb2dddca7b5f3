use Rattle.std.proofs.Common.{◌≡◌, ◌+◌, List, [], ◌∷◌, ◌++◌, suc, length, map, take, sym, ap, ap₂, ◌∙◌, subst, arith}
use Rattle.std.proofs.lemmas.List.{map_push, take_more}
use Rattle.exact_field.specs.Rational.{ℚ}
use Rattle.lineality.specs.Without.{without}
use Rattle.lineality.proofs.Masks.{length-short, open_bound}
use Rattle.rep_convert.proofs.Lists.{own_values}
use Rattle.rep_convert.proofs.start.short_rows.Goals as goal

pub overflow_add-open_places : goal.overflow_add-open_places
overflow_add-open_places c =
    let bound = open_bound c.args.places.now in
    let few = c.requires.few in
    let count = c.open_places.ensures in
    omega (arith, bound, few, count)

pub push_row-requires : goal.push_row-requires
push_row-requires c =
    let places = c.args.places.now in
    let row = c.whole-item.result in
    let wide : length row ≡ suc (length places) = subst (λ (r : List ℚ). length r ≡ suc (length places)) (sym c.whole-item.is) (c.requires.wide c.loop-whole.whole-index row c.loop-whole-test.true) in
    ap (λ (v : List ℚ). length v)
    (c.as_slice-in-loop-whole.ensures.items ∙ own_values (without places) c.as_slice.result.now c.in_ok-row.row c.in_ok-row.ensures ∙ ap (without places) c.as_slice.ensures.items)
    ∙ length-short places row wide ∙ sym c.loop-whole.invariant.width

pub loop-whole-preserved : goal.loop-whole-preserved
loop-whole-preserved c =
    let places = c.args.places.now in
    let rows = c.args.rows.now in
    let i = c.loop-whole.whole-index in
    let row = c.whole-item.result in
    let longer : take (i + 1) rows ≡ take i rows ++ row ∷ [] =
    take_more rows i row c.loop-whole-test.true ∙ ap (λ (r : List ℚ). take i rows ++ r ∷ []) (sym c.whole-item.is) in
    record {
      width = c.push_row.ensures.width ∙ c.loop-whole.invariant.width;
      rows = c.in_ok-push_row.ensures.ok
          ∙ ap₂ (λ (rs : List (List ℚ)) (r : List ℚ). rs ++ r ∷ []) c.loop-whole.invariant.rows
          (c.as_slice-in-loop-whole.ensures.items ∙ own_values (without places) c.as_slice.result.now c.in_ok-row.row c.in_ok-row.ensures
          ∙ ap (without places) c.as_slice.ensures.items)
          ∙ sym (map_push (without places) (take i rows) row) ∙ ap (map (without places)) (sym longer);
    }
