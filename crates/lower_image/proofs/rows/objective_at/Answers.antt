use Rattle.std.proofs.Common.{◌≡◌, List, map, length, subst, sym, ap, ◌∙◌, inl}
use Rattle.std.proofs.lemmas.List.{length-map}
use Rattle.exact_field.specs.Rational.{ℚ}
use Rattle.deriv_log.specs.declared.entry.Entry.{Entry}
use Rattle.overflows.specs.Products.{AreMultiplied}
use Rattle.exact_simplex.proofs.ClearingCost.{length-dense}
use Rattle.lp_form.proofs.Figures.{places_rise}
use Rattle.lin_rows.specs.Lines.{entries}
use Rattle.lp_form.specs.Data.{vector_of}
use Rattle.overflows.specs.Faults.{IsTermAt, Overflows}
use Rattle.lower_image.proofs.rows.objective_at.Goals as goal

pub sum_of_products-requires-clause-same : goal.sum_of_products-requires-clause-same
sum_of_products-requires-clause-same g c =
    let value = g.F.Field.value in
    ap length c.as_slice.ensures.items ∙ sym (length-map c.in_ok-row.row value) ∙ ap length c.in_ok-row.ensures ∙ length-dense (length c.args.x.now) (entries value c.args.line.now) (places_rise value (length c.args.x.now) 0 c.args.line.now c.requires.places)

pub returns-clause-left : goal.returns-clause-left
returns-clause-left g c = λ s listed base.
    let value = g.F.Field.value in
    let holds = g.F.Field.holds in
    let x = map value c.args.x.now in
    let row = vector_of value (length c.args.x.now) c.args.line.now in
    let same : map value c.as_slice.result.now ≡ row = ap (map value) c.as_slice.ensures.items ∙ c.in_ok-row.ensures in
    let at = subst (λ (xs : List ℚ). IsTermAt value holds xs x c.in-Err.fault) same c.in-Err.ensures.left.term in
    subst (λ (trail : List Entry). Overflows holds s trail c.term_fault.result) c.new.ensures
    (c.term_fault.ensures.licensed s row x (inl (AreMultiplied.of_objective listed base)) at)
