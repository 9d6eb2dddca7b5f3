use Rattle.std.proofs.Common.{◌≡◌, ◌+◌, List, drop, map, sym, ap, ◌∙◌}
use Rattle.std.proofs.lemmas.List.{drop_all}
use Rattle.lineality.specs.Lines.{leading_place}
use Rattle.lineality.specs.Without.{is_line_place}
use Rattle.outer_approx.specs.Lines.{told_by}
use Rattle.outer_approx.specs.declared.log.Line.{Line}
use Rattle.lineality.proofs.Reading.{line_here, line_next, rest_is}
use Rattle.outer_approx.proofs.places.is_line_place.Goals as goal

pub returns-then-leading_place-place : goal.returns-then-leading_place-place
returns-then-leading_place-place g c =
    let value = g.F.Field.value in
    let told = told_by value in
    let ls = c.args.lines.now in
    let i = c.loop-line.line-index in
    let line = c.line-item.result in
    let same : c.leading_place.result ≡ leading_place (told line) = c.leading_place.ensures ∙ ap (λ xs. leading_place (map value xs)) c.as_slice.ensures.items in
    sym (c.loop-line.invariant
    ∙ line_here (map told (drop i ls)) (map told (drop (i + 1) ls)) (told line) c.args.place (ap (map told) (rest_is ls i line c.loop-line-test.true c.line-item.is))
    (sym same ∙ c.if-leading_place-place.true))

pub loop-line-preserved : goal.loop-line-preserved
loop-line-preserved g c =
    let value = g.F.Field.value in
    let told = told_by value in
    let ls = c.args.lines.now in
    let i = c.loop-line.line-index in
    let line = c.line-item.result in
    let same : c.leading_place.result ≡ leading_place (told line) = c.leading_place.ensures ∙ ap (λ xs. leading_place (map value xs)) c.as_slice.ensures.items in
    c.loop-line.invariant
    ∙ line_next (map told (drop i ls)) (map told (drop (i + 1) ls)) (told line) c.args.place (ap (map told) (rest_is ls i line c.loop-line-test.true c.line-item.is))
    (λ e. c.if-leading_place-place.false (same ∙ e))

pub returns : goal.returns
returns g c =
    let told = told_by g.F.Field.value in
    sym (c.loop-line.invariant ∙ ap (λ (ls : List (Line g.row.F.Denot)). is_line_place (map told ls) c.args.place) (drop_all c.loop-line.line-index c.args.lines.now c.loop-line-test.false))
