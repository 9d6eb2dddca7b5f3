use Rattle.std.proofs.Common.{◌≡◌, ◌-◌, ◌∙◌, [], List, ap, arith, length, slice_index_or}
use Rattle.std.proofs.lemmas.List.{get_or_default}
use Rattle.exact_field.specs.Rational.{one_ℚ}
use Rattle.lin_rows.specs.Lines.{Rises, entries}
use Rattle.lin_rows.specs.declared.spots.Spot.{Spot}
use Rattle.lp_form.specs.Shapes.{are_places}
use Rattle.lp_form.proofs.Figures.{places_rise}
use Rattle.program_columns.specs.Entries.{negatives}
use Rattle.program_columns.proofs.Entered.{given_line}
use Rattle.program_columns.proofs.Listed.{passes_at}
use Rattle.program_columns.proofs.written.given_column.Goals as goal

pub returns : goal.returns
returns g c =
    let value = g.F.Field.value in
    let form = c.args.form.now in
    let i = c.args.i in
    let cols = form.cols in
    let spots : List (Spot _) = slice_index_or form.p (i - 1) [] in
    let own = entries value spots in
    let read : c.as_slice-2.result.now ≡ spots =
    c.as_slice-2.ensures.items ∙ c.index-as_slice-i.is
    ∙ ap (λ l. slice_index_or l (i - 1) c.index-as_slice-i.result) c.as_slice.ensures.items
    ∙ get_or_default form.p (i - 1) c.index-as_slice-i.result [] (omega arith) in
    let rises : Rises cols 0 own =
    places_rise value cols 0 spots
    (passes_at (are_places cols 0) form.p (i - 1) [] form.objective_places (omega arith)) in
    let first = entries value c.in_ok-list.list in
    let is : first ≡ negatives own =
    c.in_ok-list.ensures ∙ ap (λ cs. negatives (entries value cs)) read in
    given_line cols (length form.p) i (value c.one.result) one_ℚ own first
    (entries value c.push_kept.new.list) is c.requires.low c.requires.high c.one.ensures rises
    c.in_ok-push_kept.ensures
