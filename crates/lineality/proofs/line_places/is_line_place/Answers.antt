use Rattle.std.proofs.Common.{◌≡◌, ◌+◌, List, drop, map, sym, ap, ◌∙◌}
use Rattle.std.proofs.lemmas.List.{drop_all}
use Rattle.exact_field.specs.Rational.{ℚ}
use Rattle.lineality.specs.Lines.{leading_place}
use Rattle.lineality.specs.Without.{is_line_place}
use Rattle.lineality.proofs.Reading.{line_here, line_next, rest_is}
use Rattle.lineality.proofs.line_places.is_line_place.Goals as goal

pub returns-then-leading_place-place : goal.returns-then-leading_place-place
returns-then-leading_place-place g c =
    let values = map g.F.Field.value in
    let ls = c.args.lines.now in
    let i = c.loop-line.line-index in
    let line = c.line-item.result in
    let same : c.leading_place.result ≡ leading_place (values line) = c.leading_place.ensures ∙ ap (λ xs. leading_place (values xs)) c.as_slice.ensures.items in
    sym (c.loop-line.invariant
    ∙ line_here (map values (drop i ls)) (map values (drop (i + 1) ls)) (values line) c.args.place (ap (map values) (rest_is ls i line c.loop-line-test.true c.line-item.is))
    (sym same ∙ c.if-leading_place-place.true))

pub loop-line-preserved : goal.loop-line-preserved
loop-line-preserved g c =
    let values = map g.F.Field.value in
    let ls = c.args.lines.now in
    let i = c.loop-line.line-index in
    let line = c.line-item.result in
    let same : c.leading_place.result ≡ leading_place (values line) = c.leading_place.ensures ∙ ap (λ xs. leading_place (values xs)) c.as_slice.ensures.items in
    c.loop-line.invariant
    ∙ line_next (map values (drop i ls)) (map values (drop (i + 1) ls)) (values line) c.args.place (ap (map values) (rest_is ls i line c.loop-line-test.true c.line-item.is))
    (λ e. c.if-leading_place-place.false (same ∙ e))

pub returns : goal.returns
returns g c =
    let values : List (List g.row.F.Denot) → List (List ℚ) = map (map g.F.Field.value) in
    sym (c.loop-line.invariant ∙ ap (λ ls. is_line_place (values ls) c.args.place) (drop_all c.loop-line.line-index c.args.lines.now c.loop-line-test.false))
