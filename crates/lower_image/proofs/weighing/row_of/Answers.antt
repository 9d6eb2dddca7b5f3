use Rattle.std.proofs.Common.{◌≡◌, List, map, take, length, ap, sym, ◌∙◌, subst, rules}
use Rattle.std.specs.Prelude.{IfOk, Some}
use Rattle.std.proofs.lemmas.List.{length-map}
use Rattle.exact_field.specs.Rational.{ℚ}
use Rattle.overflows.specs.Base.{IsBaseRow}
use Rattle.overflows.specs.Products.{IsBaseX}
use Rattle.geo_duality.specs.Rows.{exchange_row}
use Rattle.outer_approx.specs.Task.{setting}
use Rattle.lower_image.proofs.LowerRows.{image_wide}
use Rattle.lower_image.proofs.Weights.{c_wide, choice_is, row_said}
use Rattle.lower_image.proofs.weighing.row_of.Goals as goal

pub returns-in_err-y-clause-left : goal.returns-in_err-y-clause-left
returns-in_err-y-clause-left g c = λ trail.
    let value = g.F.Field.value in
    let h = c.in_err-y.ensures.left (setting g.task trail) c.requires.1.0
    (subst (IsBaseX (setting g.task trail)) (choice_is value g.task.file c.args.form.now c.requires.1.0 c.args.dual.now) (c.requires.1.1.1.1.1.0 trail)) in
    search (rules, h)

pub exchanged_row-requires-clause-same : goal.exchanged_row-requires-clause-same
exchanged_row-requires-clause-same g c =
    let value = g.F.Field.value in
    let y_is = c.in_ok-y.ensures.ok g.task.file c.requires.1.0 in
    sym (length-map c.args.c.now value) ∙ ap length c.requires.1.1.0 ∙ c_wide g.task g.F.Field.holds c.requires.1.1.1.0
    ∙ sym (image_wide g.task.file (map value (take c.args.form.now.cols c.args.dual.now))) ∙ ap length (sym y_is)
    ∙ length-map c.in_ok-y.y value ∙ ap length (sym c.as_slice.ensures.items)

pub returns-clause-ok : goal.returns-clause-ok
returns-clause-ok g c =
    let value = g.F.Field.value in
    let row = c.exchanged_row in
    subst (λ (v : List ℚ). IfOk row.result (λ r. map value r ≡ v))
    (ap (λ (k : List ℚ). exchange_row k (map value c.as_slice.result.now) c.args.t) c.requires.1.1.0
    ∙ row_said value g.task c.args.form.now c.requires.1.0 c.args.dual.now c.args.t (map value c.as_slice.result.now)
    (ap (map value) c.as_slice.ensures.items ∙ c.in_ok-y.ensures.ok g.task.file c.requires.1.0))
    row.ensures.ok

pub returns-clause-left : goal.returns-clause-left
returns-clause-left g c = λ trail.
    let value = g.F.Field.value in
    let y = map value c.as_slice.result.now in
    let said = row_said value g.task c.args.form.now c.requires.1.0 c.args.dual.now c.args.t y
    (ap (map value) c.as_slice.ensures.items ∙ c.in_ok-y.ensures.ok g.task.file c.requires.1.0) in
    c.exchanged_row.ensures.left (setting g.task trail) (ap Some (sym c.requires.1.1.0))
    (subst (λ (k : List ℚ). IsBaseRow g.task.file k (exchange_row k y c.args.t)) (sym c.requires.1.1.0)
    (subst (IsBaseRow g.task.file g.task.c) (sym said) c.requires.1.1.1.1.1.1))
